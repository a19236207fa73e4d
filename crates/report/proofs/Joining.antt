-- Pieces of a text one behind the other, and how they come into a lent buffer piece by piece.
use Rattle.std.proofs.Common.{◌≡◌, ℕ, ◌+◌, ◌-◌, ◌<◌, ◌≤◌, List, [], ◌∷◌, ◌++◌, length, get_or, take, drop, sym, ap, ◌∙◌, subst, arith, length-append, length-drop, append_assoc, append-nil}
use Rattle.std.specs.List.{flat_map}
use Rattle.std.proofs.lemmas.List.{take_more, take_all, take_rest, take_at, drop_at, drop_all, drop-drop, take-append-drop}
use Rattle.std.proofs.lemmas.List.Concat.{flat_map-append}
use borrow.Rule.Slice.PartMut.{put_mid}
use Rattle.base.specs.Fronts.{Front}

-- what is lent of a buffer from byte e on
abbrev pub tail_of : List ℕ → ℕ → List ℕ
tail_of now e = take (length now - e) (drop e now)

module _ (xs old now : List ℕ) (e : ℕ) (f : Front xs old now e) where
  long : length xs ≤ length old → length now ≡ length old
  long h = omega (arith, f.count, ap length f.list, length-append xs (drop e old), length-drop e old)

  -- there is room behind what stands at the front
  pub room_behind : (ys : List ℕ) → length (xs ++ ys) ≤ length old → length ys ≤ length (tail_of now e)
  room_behind ys h =
      let sum = length-append xs ys in
      omega (arith, f.count, long (omega (arith, sum)), sum, ap length (take_rest now e), length-drop e now)

  -- what is written there stands behind it
  pub front_then : (ys tail : List ℕ) (n : ℕ) → Front ys (tail_of now e) tail n → Front (xs ++ ys) old (put_mid e (length now - e) now tail) (e + n)
  front_then ys tail n w =
      let part : tail_of now e ≡ drop e old = take_rest now e ∙ ap (drop e) f.list ∙ drop_at xs (drop e old) e (sym f.count) in
      let behind : tail ≡ ys ++ drop (e + n) old = w.list ∙ ap (λ (zs : List ℕ). ys ++ drop n zs) part ∙ ap (λ (zs : List ℕ). ys ++ zs) (drop-drop n e old) in
      let before : take e now ≡ xs = ap (take e) f.list ∙ take_at xs (drop e old) e (sym f.count) in
      let none : drop (length now - e) (drop e now) ≡ [] = drop_all (length now - e) (drop e now) (omega (arith, length-drop e now)) in
      record {
        count = omega (arith, f.count, w.count, length-append xs ys);
        list =
            ap (λ (zs : List ℕ). zs ++ (tail ++ drop (length now - e) (drop e now))) before
            ∙ ap (λ (zs : List ℕ). xs ++ (tail ++ zs)) none
            ∙ ap (λ (zs : List ℕ). xs ++ zs) (append-nil tail ∙ behind)
            ∙ sym (append_assoc xs ys (drop (e + n) old));
      }

module _ {X : Type 0} (text : X → List ℕ) (xs : List X) where
  -- the first i pieces, one behind the other
  abbrev pub first : ℕ → List ℕ
  first i = flat_map text (take i xs)

  first_more : (i : ℕ) (d : X) → i < length xs → first (i + 1) ≡ first i ++ text (get_or xs i d)
  first_more i d h =
      ap (flat_map text) (take_more xs i d h)
      ∙ flat_map-append text (take i xs) (get_or xs i d ∷ [])
      ∙ ap (λ (ys : List ℕ). first i ++ ys) (append-nil (text (get_or xs i d)))

  pub first_all : (i : ℕ) → length xs ≤ i → first i ≡ flat_map text xs
  first_all i h = ap (flat_map text) (take_all i xs h)

  first_within : (i : ℕ) → length (first i) ≤ length (flat_map text xs)
  first_within i =
      let e = ap (λ (ys : List X). length (flat_map text ys)) (sym (take-append-drop i xs)) ∙ ap length (flat_map-append text (take i xs) (drop i xs)) in
      omega (arith, e, length-append (first i) (flat_map text (drop i xs)))

  -- one piece more: ys
  module _ (i : ℕ) (d : X) (ys : List ℕ) (is : ys ≡ text (get_or xs i d)) (h : i < length xs) where
    next_text : first (i + 1) ≡ first i ++ ys
    next_text = first_more i d h ∙ ap (λ (zs : List ℕ). first i ++ zs) (sym is)

    pub next_within : length (first i) + length ys ≤ length (flat_map text xs)
    next_within = omega (arith, ap length next_text, length-append (first i) ys, first_within (i + 1))

    -- in a buffer with room for all pieces
    module _ (old now : List ℕ) (e : ℕ) (f : Front (first i) old now e) where
      pub next_room : length (flat_map text xs) ≤ length old → length ys ≤ length (tail_of now e)
      next_room room = room_behind (first i) old now e f ys (omega (arith, next_within, length-append (first i) ys))

      pub next_front : (tail : List ℕ) (n : ℕ) → Front ys (tail_of now e) tail n → Front (first (i + 1)) old (put_mid e (length now - e) now tail) (e + n)
      next_front tail n w = subst (λ (zs : List ℕ). Front zs old (put_mid e (length now - e) now tail) (e + n)) (sym next_text) (front_then (first i) old now e f ys tail n w)
