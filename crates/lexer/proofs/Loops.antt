-- Steps of the loops of the word reader.
use Rattle.std.proofs.Common.{◌≡◌, ℕ, ◌+◌, ◌-◌, ◌*◌, ◌<◌, ◌≤◌, Bool, true, false, cond, ◌||◌, eqb, leb, List, [], ◌∷◌, length, get_or, drop, Some, None, sym, ap, ◌∙◌, arith}
use Rattle.std.proofs.lemmas.List.{drop_more, drop_all}
use Rattle.std.proofs.lemmas.Option.{none-some, same_Some}
use Rattle.std.specs.List.{slice_get}
use Rattle.std.proofs.lemmas.Bool.{cond-true, cond-false, cond_both, lt-leb, or_left}
use Rattle.lexer.specs.Words.{run, behind, onward, value, Part, letter, digit, inner, letters_next, digits_next, part, symbol_part, symbols, symbol_in}
use Rattle.lexer.specs.Reader.{within}
use Rattle.base.specs.declared.Place.{Place}

pub run_stop : (f : ℕ → Bool) (bs : List ℕ) (n : ℕ) → n < length bs → f (get_or bs n 0) ≡ false → length (run f (drop n bs)) ≡ 0
run_stop f bs n h e =
    ap (λ (z : List ℕ). length (run f z)) (drop_more bs n 0 h) ∙
    ap (λ (b : Bool). length (cond b (get_or bs n 0 ∷ run f (drop (n + 1) bs)) [])) e

pub run_end : (f : ℕ → Bool) (bs : List ℕ) (n : ℕ) → length bs ≤ n → length (run f (drop n bs)) ≡ 0
run_end f bs n h = ap (λ (z : List ℕ). length (run f z)) (drop_all n bs h)

pub value_more : (ds : List ℕ) (m n : ℕ) → n < length ds → value m (drop n ds) ≡ value (m * 10 + (get_or ds n 0 - 48)) (drop (n + 1) ds)
value_more ds m n h = ap (value m) (drop_more ds n 0 h)

pub value_grows : (ds : List ℕ) (m : ℕ) → m ≤ value m ds
value_grows [] m = omega arith
value_grows (d ∷ ds) m = let h = value_grows ds (m * 10 + (d - 48)) in omega arith

-- bounds of places
onward_line : (b : ℕ) (p : Place) → (onward b p).line ≤ p.line + 1
onward_line b p = cond_both (eqb b 10) _ _ (λ (q : Place). q.line ≤ p.line + 1) (λ _. omega arith) (λ _. omega arith)

onward_column : (b : ℕ) (p : Place) → (onward b p).column ≤ p.column + 1
onward_column b p = cond_both (eqb b 10) _ _ (λ (q : Place). q.column ≤ p.column + 1) (λ _. omega arith) (λ _. omega arith)

pub behind_line : (bs : List ℕ) (p : Place) → (behind bs p).line ≤ p.line + length bs
behind_line [] p = omega arith
behind_line (b ∷ bs) p = let h = behind_line bs (onward b p) in let k = onward_line b p in omega arith

pub behind_column : (bs : List ℕ) (p : Place) → (behind bs p).column ≤ p.column + length bs
behind_column [] p = omega arith
behind_column (b ∷ bs) p = let h = behind_column bs (onward b p) in let k = onward_column b p in omega arith

-- the place after n bytes of bs, from p on
abbrev pub Placed : List ℕ → Place → ℕ → Place → Type 0
Placed bs p n q = (behind bs p ≡ behind (drop n bs) q) × (q.line ≤ p.line + n) × (q.column ≤ p.column + n)

-- digits whose value has come over the most
pub too_large : (ds : List ℕ) (i n m : ℕ) → i < length ds → value 0 ds ≡ value n (drop i ds) → m ≤ n * 10 + (get_or ds i 0 - 48) → 2147483647 < m → None ≡ within 2147483647 (value 0 ds)
too_large ds i n m h e l o =
    let v = e ∙ value_more ds n i h in
    let g = value_grows (drop (i + 1) ds) (n * 10 + (get_or ds i 0 - 48)) in
    let k : 2147483647 < value 0 ds = omega arith in
    sym (cond-false (leb (value 0 ds) 2147483647) _ _ (lt-leb (value 0 ds) 2147483647 k))

-- parts by their first byte
lettered : List ℕ → Place → Part
lettered bs p = record { bytes = bs; next = letters_next bs p }

numbered : List ℕ → Place → Part
numbered bs p = record { bytes = bs; next = digits_next bs p }

pub part_letter : (bs : List ℕ) (b : ℕ) (p : Place) → Some b ≡ slice_get bs 0 → letter b ≡ true → part bs p ≡ record { bytes = run inner bs; next = letters_next (run inner bs) p }
unfolding lettered
part_letter [] b p h e = absurd (none-some b (sym h))
part_letter (a ∷ bs) b p h e =
    let l : letter a ≡ true = ap letter (sym (same_Some b a h)) ∙ e in
    let i : inner a ≡ true = or_left (letter a || digit a) (eqb a 95) (or_left (letter a) (digit a) l) in
    cond-true (letter a) _ _ l ∙ ap (λ (z : List ℕ). lettered z p) (sym (cond-true (inner a) (a ∷ run inner bs) [] i))

pub part_digit : (bs : List ℕ) (b : ℕ) (p : Place) → Some b ≡ slice_get bs 0 → letter b ≡ false → digit b ≡ true → part bs p ≡ record { bytes = run digit bs; next = digits_next (run digit bs) p }
unfolding numbered
part_digit [] b p h e f = absurd (none-some b (sym h))
part_digit (a ∷ bs) b p h e f =
    let l = ap letter (sym (same_Some b a h)) ∙ e in
    let d = ap digit (sym (same_Some b a h)) ∙ f in
    cond-false (letter a) _ _ l ∙ cond-true (digit a) _ _ d ∙ ap (λ (z : List ℕ). numbered z p) (sym (cond-true (digit a) (a ∷ run digit bs) [] d))

pub part_symbol : (bs : List ℕ) (b : ℕ) (p : Place) → Some b ≡ slice_get bs 0 → letter b ≡ false → digit b ≡ false → part bs p ≡ symbol_part (symbol_in symbols bs) b p
part_symbol [] b p h e f = absurd (none-some b (sym h))
part_symbol (a ∷ bs) b p h e f =
    let q = same_Some b a h in
    cond-false (letter a) _ _ (ap letter (sym q) ∙ e) ∙ cond-false (digit a) _ _ (ap digit (sym q) ∙ f) ∙ ap (λ (z : ℕ). symbol_part (symbol_in symbols (a ∷ bs)) z p) (sym q)
