-- At most one tree for a list of words.
use Rattle.std.proofs.Common.{◌≡◌, List, [], ◌∷◌, ℤ, sym, refl, ap, subst}
use Rattle.lexer.specs.Words.{Word}
use Rattle.lexer.specs.Words.Word.{mark}
use Rattle.language_theory.specs.Grammar.{Declaration, Side, Operand, Condition, Statements, Tree, Const, Span, Heads, Compared, Cond, Right, Body, Script}
use Rattle.language_theory.specs.Grammar.Declaration.{variable, table}
use Rattle.language_theory.specs.Grammar.Side.{any}
use Rattle.language_theory.specs.Grammar.Order.{below, at_most, above, at_least}
use Rattle.language_theory.specs.Grammar.Condition.{compares}
use Rattle.language_theory.specs.Grammar.Statements.{done, assign, choose, repeat}
use Rattle.language_theory.specs.Grammar.Const.{plain, signed}
use Rattle.language_theory.specs.Grammar.Span.{span}
use Rattle.language_theory.specs.Grammar.Heads.{no_decl, var_decl, table_decl}
use Rattle.language_theory.specs.Grammar.Compare.{less, less_equal, greater, greater_equal}
use Rattle.language_theory.specs.Grammar.Compared.{named, fixed}
use Rattle.language_theory.specs.Grammar.Cond.{condition}
use Rattle.language_theory.specs.Grammar.Right.{a_const, a_copy, a_sum, a_difference, a_negation, a_hear, a_sense, a_lookup}
use Rattle.language_theory.specs.Grammar.Body.{no_stmt, assignment, if_stmt, if_else_stmt, while_stmt}
use Rattle.language_theory.specs.Grammar.Script.{script}
use Rattle.base.specs.declared.Place.{Place}
use Rattle.language_theory.specs.declared.Range.{Range}
use Rattle.language_theory.specs.declared.Source.TheVariants.{Sensed, Heard}
use Rattle.lexer.specs.declared.Mark.TheVariants.{Semicolon, Else, Var, Table}
use Rattle.language_theory.proofs.Machine.{Closes}
use Rattle.language_theory.proofs.Machine.Closes.{ended, closed}

tl : List Word → List Word
tl [] = []
tl (w ∷ ws) = ws

tails : {w v : Word} {ws vs : List Word} → w ∷ ws ≡ v ∷ vs → ws ≡ vs
unfolding tl
tails e = ap tl e

u_const : {ws r r₂ : List Word} {c c₂ : ℤ} → Const ws r c → Const ws r₂ c₂ → (r ≡ r₂) × (c ≡ c₂)
u_const plain plain = (refl, refl)
u_const signed signed = (refl, refl)

u_span : {ws r r₂ : List Word} {g g₂ : Range} → Span ws r g → Span ws r₂ g₂ → (r ≡ r₂) × (g ≡ g₂)
u_span {r₂ = r₂} (span {a = x} {b = y} a b) (span {a = x₂} {b = y₂} a₂ b₂) =
    let e = u_const a a₂ in
    let f = u_const b (subst (λ (z : List Word). Const z r₂ y₂) (sym (tails e.0)) b₂) in
    (f.0, λ i. record { low = e.1 i; high = f.1 i })

u_compared : {ws r r₂ : List Word} {v v₂ : Operand} → Compared ws r v → Compared ws r₂ v₂ → (r ≡ r₂) × (v ≡ v₂)
u_compared named named = (refl, refl)
u_compared named (fixed c) = elim c [ ]
u_compared (fixed plain) (fixed plain) = (refl, refl)
u_compared (fixed signed) (fixed signed) = (refl, refl)

u_cond : {ws r r₂ : List Word} {c c₂ : Condition} → Cond ws r c → Cond ws r₂ c₂ → (r ≡ r₂) × (c ≡ c₂)
u_cond (condition {n = n} less v) (condition less v₂) = let e = u_compared v v₂ in (e.0, ap (compares n below) e.1)
u_cond (condition {n = n} less_equal v) (condition less_equal v₂) = let e = u_compared v v₂ in (e.0, ap (compares n at_most) e.1)
u_cond (condition {n = n} greater v) (condition greater v₂) = let e = u_compared v v₂ in (e.0, ap (compares n above) e.1)
u_cond (condition {n = n} greater_equal v) (condition greater_equal v₂) = let e = u_compared v v₂ in (e.0, ap (compares n at_least) e.1)

u_right : {ws r r₂ : List Word} {s s₂ : Place} {e e₂ : Side} → Right ws (mark Semicolon s ∷ r) e → Right ws (mark Semicolon s₂ ∷ r₂) e₂ → (r ≡ r₂) × (e ≡ e₂)
u_right (a_const plain) (a_const plain) = (refl, refl)
u_right (a_const signed) (a_const signed) = (refl, refl)
u_right a_copy a_copy = (refl, refl)
u_right a_copy (a_const c) = elim c [ ]
u_right a_sum (a_const c) = elim c [ ]
u_right a_difference (a_const c) = elim c [ ]
u_right a_negation (a_const c) = elim c [ ]
u_right (a_hear g) (a_const c) = elim c [ ]
u_right (a_sense g) (a_const c) = elim c [ ]
u_right a_lookup (a_const c) = elim c [ ]
u_right a_sum a_sum = (refl, refl)
u_right a_difference a_difference = (refl, refl)
u_right a_negation a_negation = (refl, refl)
u_right (a_hear g) (a_hear g₂) = let e = u_span g g₂ in (tails e.0, ap (any Heard) e.1)
u_right (a_sense g) (a_sense g₂) = let e = u_span g g₂ in (tails e.0, ap (any Sensed) e.1)
u_right a_lookup a_lookup = (refl, refl)

no_else_body : {l : Place} {ws r : List Word} {b : Statements} → Body (mark Else l ∷ ws) r b → Closes r → ⊥
no_else_body no_stmt c = elim c [ ]

at_words : {ws vs r : List Word} {b : Statements} → ws ≡ vs → Body vs r b → Body ws r b
at_words {r = r} {b = b} e d = subst (λ (z : List Word). Body z r b) (sym e) d

u_body : {ws r r₂ : List Word} {b b₂ : Statements} → Body ws r b → Closes r → Body ws r₂ b₂ → Closes r₂ → (r ≡ r₂) × (b ≡ b₂)
u_body no_stmt c no_stmt c₂ = (refl, refl)
u_body no_stmt c (assignment e b) c₂ = elim c [ ]
u_body no_stmt c (if_stmt d b r) c₂ = elim c [ ]
u_body no_stmt c (if_else_stmt d b b' r) c₂ = elim c [ ]
u_body no_stmt c (while_stmt d b r) c₂ = elim c [ ]
u_body (assignment e b) c no_stmt c₂ = elim c₂ [ ]
u_body (if_stmt d b r) c no_stmt c₂ = elim c₂ [ ]
u_body (if_else_stmt d b b' r) c no_stmt c₂ = elim c₂ [ ]
u_body (while_stmt d b r) c no_stmt c₂ = elim c₂ [ ]
u_body (assignment {n = n} {p = p} e b) c (assignment e₂ b₂) c₂ =
    let x = u_right e e₂ in
    let y = u_body b c (at_words x.0 b₂) c₂ in
    (y.0, λ i. assign p n (x.1 i) (y.1 i))
u_body (if_stmt {p = p} d b r) c (if_stmt d₂ b₂ r₂) c₂ =
    let x = u_cond d d₂ in
    let y = u_body b closed (at_words (tails x.0) b₂) closed in
    let z = u_body r c (at_words (tails y.0) r₂) c₂ in
    (z.0, λ i. choose p (x.1 i) (y.1 i) done (z.1 i))
u_body (if_else_stmt {p = p} d b b' r) c (if_else_stmt d₂ b₂ b₂' r₂) c₂ =
    let x = u_cond d d₂ in
    let y = u_body b closed (at_words (tails x.0) b₂) closed in
    let y' = u_body b' closed (at_words (tails (tails (tails y.0))) b₂') closed in
    let z = u_body r c (at_words (tails y'.0) r₂) c₂ in
    (z.0, λ i. choose p (x.1 i) (y.1 i) (y'.1 i) (z.1 i))
u_body (if_stmt d b r) c (if_else_stmt d₂ b₂ b₂' r₂) c₂ =
    let x = u_cond d d₂ in
    let y = u_body b closed (at_words (tails x.0) b₂) closed in
    absurd (no_else_body (at_words (sym (tails y.0)) r) c)
u_body (if_else_stmt d b b' r) c (if_stmt d₂ b₂ r₂) c₂ =
    let x = u_cond d d₂ in
    let y = u_body b closed (at_words (tails x.0) b₂) closed in
    absurd (no_else_body (at_words (tails y.0) r₂) c₂)
u_body (while_stmt {p = p} d b r) c (while_stmt d₂ b₂ r₂) c₂ =
    let x = u_cond d d₂ in
    let y = u_body b closed (at_words (tails x.0) b₂) closed in
    let z = u_body r c (at_words (tails y.0) r₂) c₂ in
    (z.0, λ i. repeat p (x.1 i) (y.1 i) (z.1 i))

no_var_body : {p : Place} {ws : List Word} {b : Statements} → Body (mark Var p ∷ ws) [] b → ⊥
no_var_body d = elim d [ ]

no_table_body : {p : Place} {ws : List Word} {b : Statements} → Body (mark Table p ∷ ws) [] b → ⊥
no_table_body d = elim d [ ]

at_heads : {ws vs r : List Word} {ds : List Declaration} → ws ≡ vs → Heads vs r ds → Heads ws r ds
at_heads {r = r} {ds = ds} e d = subst (λ (z : List Word). Heads z r ds) (sym e) d

u_heads : {ws r r₂ : List Word} {ds ds₂ : List Declaration} {b b₂ : Statements} → Heads ws r ds → Body r [] b → Heads ws r₂ ds₂ → Body r₂ [] b₂ → (r ≡ r₂) × (ds ≡ ds₂)
u_heads no_decl b no_decl b₂ = (refl, refl)
u_heads no_decl b (var_decl s h) b₂ = absurd (no_var_body b)
u_heads no_decl b (table_decl s h) b₂ = absurd (no_table_body b)
u_heads (var_decl s h) b no_decl b₂ = absurd (no_var_body b₂)
u_heads (table_decl s h) b no_decl b₂ = absurd (no_table_body b₂)
u_heads (var_decl {n = n} s h) b (var_decl s₂ h₂) b₂ =
    let x = u_span s s₂ in
    let y = u_heads h b (at_heads (tails x.0) h₂) b₂ in
    (y.0, λ i. variable n (x.1 i) ∷ y.1 i)
u_heads (table_decl {n = n} {c = c} s h) b (table_decl s₂ h₂) b₂ =
    let x = u_span s s₂ in
    let y = u_heads h b (at_heads (tails x.0) h₂) b₂ in
    (y.0, λ i. table n c (x.1 i) ∷ y.1 i)

pub one_tree : {ws : List Word} {t t₂ : Tree} → Script ws t → Script ws t₂ → t ≡ t₂
one_tree (script h b) (script h₂ b₂) =
    let x = u_heads h b h₂ b₂ in
    let y = u_body b ended (at_words x.0 b₂) ended in
    λ i. record { declarations = x.1 i; statements = y.1 i }
