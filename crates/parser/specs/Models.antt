-- What the reader holds, by its meaning.
use Rattle.std.specs.Prelude.{◌≡◌, true, false, Option, MatchOption, Result, MatchResult, ℕ, List, map, ℤ, pos, negsuc, ◌+ℤ◌, ◌-ℤ◌, ◌≤ℤ◌, vec_items}
use Rattle.base.specs.declared.Place.{Place}
use Rattle.base.specs.declared.Refusal.{Refusal}
use Rattle.base.specs.declared.Reason.TheVariants.{Undeclared}
use Rattle.base.specs.Reasons.{located}
use Rattle.lexer.specs.Words.{Text, among}
use Rattle.lexer.specs.Reader.{as_next, ahead, leads}
use Rattle.language_theory.specs.Grammar as grammar
use Rattle.language_theory.specs.Graphs as graphs
use Rattle.language_theory.specs.Graphs.{var_number, table_number, table_at, fresh, note, only}
use Rattle.language_theory.specs.declared.Action.TheVariants.{Assign, Assume}
use Rattle.language_theory.specs.declared.Guard.{Guard}
use Rattle.language_theory.specs.declared.Guard.TheVariants as guard
use Rattle.language_theory.specs.declared.Value.TheVariants.{AnyOf, TableEntry, Sum, Negation}
use Rattle.language_theory.specs.declared.Source.TheVariants.{Written}
use Rattle.parser.specs.declared.Variable.{Variable}
use Rattle.parser.specs.declared.Table.{Table}
use Rattle.parser.specs.declared.sentence.Sentence.{Sentence}
use Rattle.parser.specs.declared.names.Names.{Names}
use Rattle.parser.specs.declared.drawing.Drawing.{Drawing}
use Rattle.parser.specs.declared.side.Side.{Side}
use Rattle.parser.specs.declared.side.Side.TheVariants.{Value, Entry}
use Rattle.parser.specs.declared.condition.Order.{Order}
use Rattle.parser.specs.declared.condition.Order.TheVariants.{Below, AtMost, Above, AtLeast}
use Rattle.parser.specs.declared.condition.Operand.{Operand}
use Rattle.parser.specs.declared.condition.Operand.TheVariants.{Against, Limit}
use Rattle.parser.specs.declared.condition.Condition.{Condition}

-- the text from the present word on
abbrev pub left : Sentence → Text
left s = leads (as_next s.present) (ahead s.words)

-- a constant with room above and below
abbrev pub Small : ℤ → Type 0
Small c = (negsuc 4294967295 ≤ℤ c) × (c ≤ℤ pos 4294967295)

-- variables and tables, with their names as lists of bytes
abbrev pub variable_of : Variable → graphs.Variable
variable_of v = record { name = vec_items v.name; range = v.range }

abbrev pub table_of : Table → graphs.Table
table_of t = record { name = vec_items t.name; size = t.size; range = t.range }

abbrev pub vars_of : Names → List graphs.Variable
vars_of n = map variable_of (vec_items n.variables)

abbrev pub tabs_of : Names → List graphs.Table
tabs_of n = map table_of (vec_items n.tables)

-- the number of the first of these names that is this one, if one is
abbrev pub LooksUp : List ℕ → List (List ℕ) → Option ℕ → Type 0
LooksUp n ns r = MatchOption r (among n ns ≡ false) (λ i. (among n ns ≡ true) × (i ≡ graphs.number_of n ns))

-- the same, where a name that is none of them is refused at its place
abbrev pub Finds : List ℕ → List (List ℕ) → Place → Result ℕ Refusal → Type 0
Finds n ns p r = MatchResult r (λ i. (among n ns ≡ true) × (i ≡ graphs.number_of n ns)) (λ e. (among n ns ≡ false) × (e ≡ located Undeclared p))

-- the drawing
abbrev pub drawn_so : Drawing → graphs.Drawing
drawn_so d = record { points = d.points; now = d.here; edges = vec_items d.edges; lookups = vec_items d.lookups }

-- Right sides and conditions by the numbers of their names.
abbrev pub order_of : grammar.Order → Order
order_of grammar.Order.below = Below
order_of grammar.Order.at_most = AtMost
order_of grammar.Order.above = Above
order_of grammar.Order.at_least = AtLeast

-- a constant, a written range of one number
abbrev pub fixed : ℤ → Side
fixed c = Value (AnyOf (only c) Written)

module _ (vs : List graphs.Variable) (ts : List graphs.Table) where
  abbrev pub side_of : grammar.Side → Side
  side_of (grammar.Side.constant c) = fixed c
  side_of (grammar.Side.shifted i c) = Value (Sum (var_number vs ts i) c)
  side_of (grammar.Side.negated i) = Value (Negation (var_number vs ts i))
  side_of (grammar.Side.any s g) = Value (AnyOf g s)
  side_of (grammar.Side.reading t i p) = Entry (record {
    table = table_number vs ts t;
    size = (table_at vs ts t).size;
    range = (table_at vs ts t).range;
    index = var_number vs ts i;
    place = p;
  })

  abbrev pub operand_of : grammar.Operand → Operand
  operand_of (grammar.Operand.against k) = Against (var_number vs ts k)
  operand_of (grammar.Operand.limit c) = Limit c

  abbrev pub condition_of : grammar.Condition → Condition
  condition_of (grammar.Condition.compares i o v) = record { left = var_number vs ts i; order = order_of o; right = operand_of v }

-- the edges of an assignment
abbrev pub assigned : Place → ℕ → Side → graphs.Drawing → graphs.Drawing
assigned p k (Value x) d = fresh (Assign k x) p d
assigned p k (Entry r) d =
    fresh (Assign k (TableEntry r.index r.range)) p
    (fresh (Assume (guard.AtMost r.index (pos r.size -ℤ pos 1))) p
    (fresh (Assume (guard.AtLeast r.index (pos 0))) p
    (note (record { point = d.now; index = r.index; table = r.table; place = r.place }) d)))

-- The guard of a condition: a strict one against a constant moves it by one; i ≥ k is k ≤ i, and i > k is k < i.
abbrev pub guard_of : ℕ → Order → Operand → Guard
guard_of i Below (Limit c) = guard.AtMost i (c -ℤ pos 1)
guard_of i AtMost (Limit c) = guard.AtMost i c
guard_of i Above (Limit c) = guard.AtLeast i (c +ℤ pos 1)
guard_of i AtLeast (Limit c) = guard.AtLeast i c
guard_of i Below (Against k) = guard.Difference i k (negsuc 0)
guard_of i AtMost (Against k) = guard.Difference i k (pos 0)
guard_of i Above (Against k) = guard.Difference k i (negsuc 0)
guard_of i AtLeast (Against k) = guard.Difference k i (pos 0)

abbrev pub SmallOperand : Operand → Type 0
SmallOperand (Against k) = Unit {0}
SmallOperand (Limit c) = Small c

abbrev pub opposite_of : Order → Order
opposite_of Below = AtLeast
opposite_of AtMost = Above
opposite_of Above = AtMost
opposite_of AtLeast = Below
