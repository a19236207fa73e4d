use Rattle.std.proofs.Common.{ℕ, ap, ◌≡◌, false, [], ◌∷◌, pos, neg_ℤ, sym, refl, ◌∙◌, subst, w64, to_z, of_z, rules, slice_index_or}
use Rattle.base.specs.declared.Reason.TheVariants.{Undeclared}
use Rattle.lexer.specs.Words.{Text}
use Rattle.lexer.specs.declared.Mark.TheVariants.{Becomes, Plus, Minus}
use Rattle.language_theory.specs.Grammar.Side.{reading, shifted}
use Rattle.language_theory.specs.Expected.Expect.{right}
use Rattle.language_theory.specs.Readings.{first_is, Over, is_right, KnowsBehind, Shifts}
use Rattle.language_theory.specs.Readings.Shifts.{plus, minus}
use Rattle.language_theory.proofs.Turning.{turns, turns_at}
use Rattle.language_theory.proofs.Sides.{refuses_named, named_decides, table_decides, side_copy, side_shifted, refuses_shifted, side_reading, refuses_reading}
use Rattle.parser.specs.Models.{left, vars_of, tabs_of}
use Rattle.parser.specs.declared.side.Side.TheVariants.{Value, Entry}
use Rattle.language_theory.specs.declared.Value.TheVariants.{Sum}
use Rattle.language_theory.specs.Graphs.{no_table}
use Rattle.std.proofs.lemmas.Int.{to_z-of_z}
use Rattle.parser.proofs.Exits.{handed_on}
use Rattle.parser.proofs.Naming.{table_there}
use Rattle.parser.proofs.script.Script.read_named.Goals as goal

pub returns-in_err-name : goal.returns-in_err-name
returns-in_err-name c =
    handed_on _ _ c.from_residual.result _ c.from_residual.ensures.1
    (λ e. turns (refuses_named _ _ (left c.args.self.now.sentence) _ e) c.in_err-name.ensures)

pub returns-in_err-table : goal.returns-in_err-table
returns-in_err-table c =
    let h = c.in_err-table.ensures in
    handed_on _ _ c.from_residual-in_err-table.result _ c.from_residual-in_err-table.ensures.1
    (λ e. turns_at (right ∷ []) (KnowsBehind _ _ Becomes) _ _ Undeclared _ h.1
    (table_decides _ _ c.in_ok-name.ensures false (sym c.if-accept.ensures.is) h.0))

pub shape-size-requires : goal.shape-size-requires
shape-size-requires c = table_there c.args.self.now.names.tables c.in_ok-name.name.now _ c.in_ok-table.ensures

pub returns-in_err-index : goal.returns-in_err-index
returns-in_err-index c =
    let h = c.in_ok-table.ensures in
    let b = sym c.if-accept.ensures.is in
    let m = c.if-accept.ensures.passed in
    handed_on _ _ c.from_residual-in_err-index.result _ c.from_residual-in_err-index.ensures.1
    (λ e. turns (refuses_reading _ _ c.in_ok-name.ensures b h.0 m.1 _) c.in_err-index.ensures)

pub returns-then-accept : goal.returns-then-accept
returns-then-accept c =
    let n = c.args.self.now.names in
    let h = c.in_ok-table.ensures in
    let b = sym c.if-accept.ensures.is in
    let m = c.if-accept.ensures.passed in
    let i = c.in_ok-index.ensures in (
      reading c.in_ok-name.name.now i.0 c.in_ok-index.place,
      (λ j. Entry (record {
        table = h.1 j;
        size = (c.shape-size.ensures.0 ∙ ap (λ (k : ℕ). (slice_index_or (tabs_of n) k no_table).size) h.1) j;
        range = (c.shape-size.ensures.1 ∙ ap (λ (k : ℕ). (slice_index_or (tabs_of n) k no_table).range) h.1) j;
        index = i.1 j;
        place = c.in_ok-index.place;
      })),
      (side_reading _ _ c.in_ok-name.ensures b h.0 m.1 i.0 c.in_ok-index.place _ i.2.0, i.2.1),
    )

pub returns-in_err-i : goal.returns-in_err-i
returns-in_err-i c =
    let h = c.in_err-i.ensures in
    handed_on _ _ c.from_residual-in_err-i.result _ c.from_residual-in_err-i.ensures.1
    (λ e. turns_at (right ∷ []) (KnowsBehind _ _ Becomes) _ _ Undeclared _ h.1
    (named_decides _ _ c.in_ok-name.ensures false (sym c.if-accept.ensures.is) h.0))

pub returns-in_err-n : goal.returns-in_err-n
returns-in_err-n c =
    let n = c.args.self.now.names in
    let h = c.in_ok-i.ensures in
    let p = c.if-accept-2.ensures.passed.0 in
    let m = sym c.if-accept.ensures.stays ∙ c.if-accept-2.ensures.passed.1 in
    handed_on _ _ c.from_residual-in_err-n.result _ c.from_residual-in_err-n.ensures.1
    (λ e. turns (refuses_shifted _ _ c.in_ok-name.ensures (sym c.if-accept.ensures.is) h.0 (plus {c = 0}) p _ _ m) c.in_err-n.ensures)

pub returns-then-accept-2 : goal.returns-then-accept-2
returns-then-accept-2 c =
    let h = c.in_ok-i.ensures in
    let p = c.if-accept-2.ensures.passed.0 in
    let m = sym c.if-accept.ensures.stays ∙ c.if-accept-2.ensures.passed.1 in
    let z : to_z w64 (of_z w64 c.from.result) ≡ pos c.in_ok-n.n = to_z-of_z w64 c.from.result (search rules) ∙ c.from.ensures in (
      shifted c.in_ok-name.name.now _,
      c.sum.ensures ∙ ap (λ (j : ℕ). Value (Sum j (to_z w64 (of_z w64 c.from.result)))) h.1,
      (side_shifted _ _ c.in_ok-name.ensures (sym c.if-accept.ensures.is) h.0 (subst (Shifts Plus c.in_ok-n.n) (sym z) plus) p _ _ _ m c.in_ok-n.ensures, refl),
    )

pub returns-in_err-n-2 : goal.returns-in_err-n-2
returns-in_err-n-2 c =
    let h = c.in_ok-i.ensures in
    let p = c.if-accept-3.ensures.passed.0 in
    let m = sym c.if-accept.ensures.stays ∙ sym c.if-accept-2.ensures.stays ∙ c.if-accept-3.ensures.passed.1 in
    handed_on _ _ c.from_residual-in_err-n-2.result _ c.from_residual-in_err-n-2.ensures.1
    (λ e. turns (refuses_shifted _ _ c.in_ok-name.ensures (sym c.if-accept.ensures.is) h.0 (minus {c = 0}) p _ _ m) c.in_err-n-2.ensures)

pub returns-then-accept-3 : goal.returns-then-accept-3
returns-then-accept-3 c =
    let h = c.in_ok-i.ensures in
    let p = c.if-accept-3.ensures.passed.0 in
    let m = sym c.if-accept.ensures.stays ∙ sym c.if-accept-2.ensures.stays ∙ c.if-accept-3.ensures.passed.1 in
    let z : to_z w64 (of_z w64 c.negative.result) ≡ neg_ℤ (pos c.in_ok-n-2.n) = to_z-of_z w64 c.negative.result (search rules) ∙ c.negative.ensures in (
      shifted c.in_ok-name.name.now _,
      c.sum-then-accept-3.ensures ∙ ap (λ (j : ℕ). Value (Sum j (to_z w64 (of_z w64 c.negative.result)))) h.1,
      (side_shifted _ _ c.in_ok-name.ensures (sym c.if-accept.ensures.is) h.0 (subst (Shifts Minus c.in_ok-n-2.n) (sym z) minus) p _ _ _ m c.in_ok-n-2.ensures, refl),
    )

pub returns : goal.returns
returns c =
    let n = c.args.self.now.names in
    let h = c.in_ok-i.ensures in
    let a = c.if-accept.ensures.stays in
    let b = c.if-accept-2.ensures.stays ∙ a in
    let d = c.if-accept-3.ensures.stays ∙ b in (
      shifted c.in_ok-name.name.now (pos 0),
      c.sum-2.ensures ∙ ap (λ (j : ℕ). Value (Sum j (pos 0))) h.1,
      (
        subst (λ (t : Text). Over (right ∷ []) (KnowsBehind (vars_of n) (tabs_of n) Becomes) (is_right (shifted c.in_ok-name.name.now (pos 0))) (left c.args.self.now.sentence) t) (sym d)
            (side_copy _ _ c.in_ok-name.ensures (sym c.if-accept.ensures.is) h.0 (pos 0) refl (ap (first_is Plus) (sym a) ∙ sym c.if-accept-2.ensures.is)
            (ap (first_is Minus) (sym b) ∙ sym c.if-accept-3.ensures.is)),
        refl,
      ),
    )
