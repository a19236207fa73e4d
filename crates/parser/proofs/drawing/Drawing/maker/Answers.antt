use Rattle.std.proofs.Common.{◌≡◌, ℕ, Bool, true, false, List, [], ◌∷◌, Some, None, Option, Bor, rules, eqb, refl, ap, ◌∙◌}
use Rattle.std.specs.Option.{option_map}
use Rattle.std.specs.List.{find}
use Rattle.std.proofs.lemmas.Iterator.{YieldsList-from_slice}
use Rattle.std.proofs.lemmas.Iterator.Search.{find_from_yields_List}
use borrow.Author.Tests.{tests}
use Rattle.base.specs.declared.Place.{Place}
use Rattle.language_theory.specs.Graphs.{maker}
use Rattle.language_theory.specs.declared.Edge.{Edge}
use Rattle.parser.proofs.drawing.Drawing.maker.Goals as goal

placed : (q : ℕ) (es : List Edge) → option_map (λ (e : Edge). e.place) (find (λ (e : Edge). eqb e.target q) es) ≡ maker q es
placed q [] = refl
placed q (e ∷ es) = either (eqb e.target q) _ _ (placed q es)
  where
    either : (b : Bool) (m : Option Place) (r : Option Edge) → option_map (λ (e : Edge). e.place) r ≡ m →
        option_map (λ (e : Edge). e.place) (mathlib.Core.Bool.cond b (Some e) r) ≡ mathlib.Core.Bool.cond b (Some e.place) m
    either true m r h = refl
    either false m r h = h

twice : (r : Option (Bor Edge)) → option_map (λ (e : Bor Edge). e.now.place) r ≡ option_map (λ (e : Edge). e.place) (option_map (λ (e : Bor Edge). e.now) r)
twice None = refl
twice (Some e) = refl

pub returns : goal.returns
returns c =
    let k = find_from_yields_List (λ (e : Edge). eqb e.target c.args.point) _ _ c.find.result c.find.ensures.ran (YieldsList-from_slice _ c.iter.ensures.rest) (λ x b q k. search (rules, tests)) in
    let m : c.map.result ≡ option_map (λ (e : Bor Edge). e.now.place) c.find.result = search rules in
    m ∙ twice c.find.result ∙ ap (option_map (λ (e : Edge). e.place)) k ∙ placed c.args.point _ ∙ ap (maker c.args.point) c.deref.ensures.value
