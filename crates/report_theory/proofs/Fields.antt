-- Fields can be read back from a line, and lines from a text.
use Rattle.std.proofs.Common.{◌≡◌, ℕ, true, List, [], ◌∷◌, ◌++◌, sym, refl, ap, ◌∙◌, arith}
use Rattle.std.proofs.lemmas.Bool.{false≢true}
use Rattle.std.specs.Prelude.{flat_map}
use Rattle.std.proofs.lemmas.List.{append_assoc}
use Rattle.language_theory.specs.Graphs.{Each}
use Rattle.report_theory.specs.Texts.{line_of}
use Rattle.report_theory.proofs.Plainness.{ends_field, Plain}

-- a line that can be read back: some fields, all of them plain
abbrev pub Line : List (List ℕ) → Type 0
Line [] = ⊥
Line (f ∷ fs) = Plain f × Each Plain fs

-- a field with the byte that ends it and what follows
record Parted (f g : List ℕ) (c d : ℕ) (t u : List ℕ) : Type 0 where
  field : f ≡ g
  mark : c ≡ d
  rest : t ≡ u

part_once : (f g : List ℕ) (c d : ℕ) (t u : List ℕ) → Plain f → Plain g → ends_field c ≡ true → ends_field d ≡ true → f ++ c ∷ t ≡ g ++ d ∷ u → Parted f g c d t u
part_once [] [] c d t u p q h k e = record { field = refl; mark = cc; rest = cc }
part_once [] (b ∷ g) c d t u p q h k e = let m : b ≡ c = cc in absurd (false≢true (sym q.0 ∙ ap ends_field m ∙ h))
part_once (a ∷ f) [] c d t u p q h k e = let m : a ≡ d = cc in absurd (false≢true (sym p.0 ∙ ap ends_field m ∙ k))
part_once (a ∷ f) (b ∷ g) c d t u p q h k e =
    let r : f ++ c ∷ t ≡ g ++ d ∷ u = cc in
    let s = part_once f g c d t u p.1 q.1 h k r in
    let i = s.field in
    record { field = cc; mark = s.mark; rest = s.rest }

one_field : (f t : List ℕ) → line_of (f ∷ []) ++ t ≡ f ++ 10 ∷ t
one_field f t = append_assoc f (10 ∷ []) t

more_fields : (f g : List ℕ) (fs : List (List ℕ)) (t : List ℕ) → line_of (f ∷ g ∷ fs) ++ t ≡ f ++ 32 ∷ (line_of (g ∷ fs) ++ t)
more_fields f g fs t = append_assoc f (32 ∷ line_of (g ∷ fs)) t

pub line_once : (fs gs : List (List ℕ)) (t u : List ℕ) → Line fs → Line gs → line_of fs ++ t ≡ line_of gs ++ u → (fs ≡ gs) × (t ≡ u)
line_once [] gs t u p q e = absurd p
line_once (f ∷ fs) [] t u p q e = absurd q
line_once (f ∷ []) (g ∷ []) t u p q e =
    let s = part_once f g 10 10 t u p.0 q.0 refl refl (sym (one_field f t) ∙ e ∙ one_field g u) in
    (ap (λ (h : List ℕ). h ∷ []) s.field, s.rest)
line_once (f ∷ []) (g ∷ g₂ ∷ gs) t u p q e =
    let s = part_once f g 10 32 t (line_of (g₂ ∷ gs) ++ u) p.0 q.0 refl refl (sym (one_field f t) ∙ e ∙ more_fields g g₂ gs u) in
    absurd (omega (arith, s.mark))
line_once (f ∷ f₂ ∷ fs) (g ∷ []) t u p q e =
    let s = part_once f g 32 10 (line_of (f₂ ∷ fs) ++ t) u p.0 q.0 refl refl (sym (more_fields f f₂ fs t) ∙ e ∙ one_field g u) in
    absurd (omega (arith, s.mark))
line_once (f ∷ f₂ ∷ fs) (g ∷ g₂ ∷ gs) t u p q e =
    let s = part_once f g 32 32 (line_of (f₂ ∷ fs) ++ t) (line_of (g₂ ∷ gs) ++ u) p.0 q.0 refl refl (sym (more_fields f f₂ fs t) ∙ e ∙ more_fields g g₂ gs u) in
    let r = line_once (f₂ ∷ fs) (g₂ ∷ gs) t u p.1 q.1 s.rest in
    let i = s.field in
    let j = r.0 in
    (cc, r.1)

-- a line is not empty
line_some : (fs : List (List ℕ)) (t : List ℕ) → [] ≡ line_of fs ++ t → ⊥
line_some [] t e = cc
line_some ([] ∷ []) t e = cc
line_some ((b ∷ f) ∷ []) t e = cc
line_some ([] ∷ g ∷ fs) t e = cc
line_some ((b ∷ f) ∷ g ∷ fs) t e = cc

pub lines_once : (ls ms : List (List (List ℕ))) → Each Line ls → Each Line ms → flat_map line_of ls ≡ flat_map line_of ms → ls ≡ ms
lines_once [] [] p q e = refl
lines_once [] (m ∷ ms) p q e = absurd (line_some m (flat_map line_of ms) e)
lines_once (l ∷ ls) [] p q e = absurd (line_some l (flat_map line_of ls) (sym e))
lines_once (l ∷ ls) (m ∷ ms) p q e =
    let r = line_once l m (flat_map line_of ls) (flat_map line_of ms) p.0 q.0 e in
    let i = r.0 in
    let j = lines_once ls ms p.1 q.1 r.1 in
    cc
