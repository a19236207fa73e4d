-- A line as its fields, each with the byte behind it.
use Rattle.std.proofs.Common.{◌≡◌, ℕ, ◌+◌, ◌-◌, ◌<◌, ◌≤◌, List, [], ◌∷◌, ◌++◌, length, get_or, take, max, refl, sym, ap, ◌∙◌, subst, arith, length-append, append_assoc}
use Rattle.std.specs.List.{flat_map, sum_by}
use Rattle.std.proofs.lemmas.List.{length_push}
use Rattle.std.proofs.lemmas.List.Sums.{sum_by-cons, sum_by_more_le}
use borrow.Rule.Slice.PartMut.{put_mid}
use Rattle.base.specs.Fronts.{Front}
use Rattle.report.specs.Lines.{field_text, line_text}
use Rattle.report.specs.declared.lines.Field.{Field}
use Rattle.report.proofs.Joining.{tail_of, first, first_all, next_room, room_behind, front_then}

-- a field, and a byte behind it
abbrev pub ended : ℕ → Field → List ℕ
ended mark f = field_text f ++ mark ∷ []

-- how many bytes a field takes
abbrev pub width : Field → ℕ
width f = length (field_text f)

regroup : (a b c : List ℕ) → a ++ 32 ∷ (b ++ c) ≡ ((a ++ 32 ∷ []) ++ b) ++ c
regroup a b c = sym (append_assoc (a ++ 32 ∷ []) b c ∙ append_assoc a (32 ∷ []) (b ++ c))

-- behind all fields but the last a space, behind the last LF
line_is : (fs : List Field) (last : Field) → line_text (fs ++ last ∷ []) ≡ flat_map (ended 32) fs ++ ended 10 last
line_is [] last = refl
line_is (f ∷ []) last = regroup (field_text f) [] (ended 10 last)
line_is (f ∷ g ∷ fs) last =
    ap (λ (zs : List ℕ). field_text f ++ 32 ∷ zs) (line_is (g ∷ fs) last)
    ∙ regroup (field_text f) (flat_map (ended 32) (g ∷ fs)) (ended 10 last)

-- the length of a line: its fields, and a byte for each, or LF alone
pub line_length_is : (fs : List Field) → length (line_text fs) ≡ max 1 (length fs) + sum_by width fs
line_length_is [] = refl
line_length_is (f ∷ []) = omega (arith, length-append (field_text f) (10 ∷ []), sum_by-cons width f [])
line_length_is (f ∷ g ∷ fs) =
    omega (arith, length-append (field_text f) (32 ∷ line_text (g ∷ fs)), line_length_is (g ∷ fs), sum_by-cons width f (g ∷ fs))

-- one field more is no longer than the line
pub fields_within : (fs : List Field) (i : ℕ) (d : Field) → i < length fs → max 1 (length fs) + sum_by width (take i fs) + width (get_or fs i d) ≤ length (line_text fs)
fields_within fs i d h = omega (arith, line_length_is fs, sum_by_more_le width fs i d h)

-- a line that comes into a buffer with room for it: i of its fields stand at the front
module _ (line os : List Field) (last : Field) (whole : line ≡ os ++ last ∷ []) (old now : List ℕ) (room : length (line_text line) ≤ length old) (e i : ℕ) (f : Front (first (ended 32) os i) old now e) where
  parts : line_text line ≡ flat_map (ended 32) os ++ ended 10 last
  parts = ap line_text whole ∙ line_is os last

  pub next_field : (d : Field) → i < length os → length (field_text (get_or os i d)) < length (tail_of now e)
  next_field d h =
      let r = next_room (ended 32) os i d (ended 32 (get_or os i d)) refl h old now e f (omega (arith, room, ap length parts, length-append (flat_map (ended 32) os) (ended 10 last))) in
      omega (arith, r, length_push (field_text (get_or os i d)) 32)

  module _ (h : length os ≤ i) where
    all : Front (flat_map (ended 32) os) old now e
    all = subst (λ (zs : List ℕ). Front zs old now e) (first_all (ended 32) os i h) f

    pub last_field : length (field_text last) < length (tail_of now e)
    last_field =
        let r = room_behind (flat_map (ended 32) os) old now e all (ended 10 last) (omega (arith, room, ap length parts)) in
        omega (arith, r, length_push (field_text last) 10)

    pub last_front : (tail : List ℕ) (n : ℕ) → Front (ended 10 last) (tail_of now e) tail n → Front (line_text line) old (put_mid e (length now - e) now tail) (e + n)
    last_front tail n w = subst (λ (zs : List ℕ). Front zs old (put_mid e (length now - e) now tail) (e + n)) (sym parts) (front_then (flat_map (ended 32) os) old now e all (ended 10 last) tail n w)
