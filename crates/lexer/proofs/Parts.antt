-- Each step from word to word: parts join to the text, gaps are blanks and comments, parts are longest.
use Rattle.std.proofs.Common.{◌≡◌, ℕ, ◌≤◌, Bool, true, false, cond, not, ◌||◌, eqb, List, [], ◌∷◌, ◌++◌, length, take, drop, Some, None, Option, sym, refl, ap, ◌∙◌, subst, inl, inr, arith, length-append}
use Rattle.std.proofs.Math.Seq.{take-append_seam}
use Rattle.std.proofs.lemmas.Bool.{eqb-true, and_parts, false≢true, cond_both}
use Rattle.lexer.specs.Words.{Spelling, Part, blank, letter, digit, inner, skipped, commenting, gap, run, behind, onward, begins, symbols, symbol_in, symbol_part, part}
use Rattle.lexer.specs.Parts.{Gap, Stops, Member, Longest, taken, StepsWell}
use Rattle.lexer.specs.Parts.Gap.{none, a_blank, hash, inside, line_end}
use Rattle.base.specs.declared.Place.{Place}
use Rattle.lexer.proofs.Told.{no_some}

pub gap_front : (c : Bool) (bs : List ℕ) → gap c bs ++ drop (length (gap c bs)) bs ≡ bs
gap_front c [] = refl
gap_front c (b ∷ bs) = go (skipped c b) (gap_front (commenting c b) bs)
  where
    go : (t : Bool) → gap (commenting c b) bs ++ drop (length (gap (commenting c b) bs)) bs ≡ bs →
        cond t (b ∷ gap (commenting c b) bs) [] ++ drop (length (cond t (b ∷ gap (commenting c b) bs) [])) (b ∷ bs) ≡ b ∷ bs
    go true ih = ap (λ (z : List ℕ). b ∷ z) ih
    go false ih = refl

pub run_front : (f : ℕ → Bool) (bs : List ℕ) → run f bs ++ drop (length (run f bs)) bs ≡ bs
run_front f [] = refl
run_front f (b ∷ bs) = go (f b) (run_front f bs)
  where
    go : (t : Bool) → run f bs ++ drop (length (run f bs)) bs ≡ bs → cond t (b ∷ run f bs) [] ++ drop (length (cond t (b ∷ run f bs) [])) (b ∷ bs) ≡ b ∷ bs
    go true ih = ap (λ (z : List ℕ). b ∷ z) ih
    go false ih = refl

-- the bytes that a list begins with are no more than it has, and are its first
pub front_short : (xs bs : List ℕ) → xs ++ drop (length xs) bs ≡ bs → length xs ≤ length bs
front_short xs bs e = let h = ap length e in let k = length-append xs (drop (length xs) bs) in omega arith

pub front_take : (xs bs : List ℕ) → xs ++ drop (length xs) bs ≡ bs → take (length xs) bs ≡ xs
front_take xs bs e = ap (take (length xs)) (sym e) ∙ take-append_seam xs (drop (length xs) bs)

run_stops : (f : ℕ → Bool) (bs : List ℕ) → Stops f (drop (length (run f bs)) bs)
run_stops f [] = tt
run_stops f (b ∷ bs) = go (f b) refl (run_stops f bs)
  where
    go : (t : Bool) → f b ≡ t → Stops f (drop (length (run f bs)) bs) → Stops f (drop (length (cond t (b ∷ run f bs) [])) (b ∷ bs))
    go true e ih = ih
    go false e ih = e

pub begins_front : (xs bs : List ℕ) → begins xs bs ≡ true → xs ++ drop (length xs) bs ≡ bs
begins_front [] bs h = refl
begins_front (x ∷ xs) [] h = absurd (false≢true h)
begins_front (x ∷ xs) (b ∷ bs) h =
    let k = and_parts (eqb x b) (begins xs bs) h in
    let e = eqb-true x b k.0 in
    let r = begins_front xs bs k.1 in λ i. e i ∷ r i

gap_is : (c : Bool) (bs : List ℕ) → Gap c (gap c bs)
gap_is c [] = none
gap_is false (b ∷ bs) = go (eqb b 35) refl (blank b) refl (gap_is (eqb b 35) bs)
  where
    go : (h : Bool) → eqb b 35 ≡ h → (k : Bool) → blank b ≡ k → Gap (eqb b 35) (gap (eqb b 35) bs) → Gap false (cond (k || h) (b ∷ gap (eqb b 35) bs) [])
    go true e k f g =
        let t : cond (k || true) (b ∷ gap (eqb b 35) bs) [] ≡ 35 ∷ gap true bs = on k ∙ (λ i. eqb-true b 35 e i ∷ gap (e i) bs) in
        subst (Gap false) (sym t) (hash (subst (λ (z : Bool). Gap z (gap z bs)) e g))
      where
        on : (k : Bool) → cond (k || true) (b ∷ gap (eqb b 35) bs) [] ≡ b ∷ gap (eqb b 35) bs
        on true = refl
        on false = refl
    go false e true f g = a_blank f (subst (λ (z : Bool). Gap z (gap (eqb b 35) bs)) e g)
    go false e false f g = none
gap_is true (b ∷ bs) = go (eqb b 10) refl (gap_is (not (eqb b 10)) bs)
  where
    go : (h : Bool) → eqb b 10 ≡ h → Gap (not (eqb b 10)) (gap (not (eqb b 10)) bs) → Gap true (b ∷ gap (not (eqb b 10)) bs)
    go true e g =
        subst (λ (z : ℕ). Gap true (z ∷ gap (not (eqb b 10)) bs)) (sym (eqb-true b 10 e)) (line_end (subst (λ (z : Bool). Gap (not z) (gap (not (eqb b 10)) bs)) e g))
    go false e g = inside e (subst (λ (z : Bool). Gap (not z) (gap (not (eqb b 10)) bs)) e g)

gap_clear : (c : Bool) (bs : List ℕ) → Stops (skipped false) (drop (length (gap c bs)) bs)
gap_clear c [] = tt
gap_clear true (b ∷ bs) = gap_clear (not (eqb b 10)) bs
gap_clear false (b ∷ bs) = go (skipped false b) refl (gap_clear (eqb b 35) bs)
  where
    go : (t : Bool) → skipped false b ≡ t → Stops (skipped false) (drop (length (gap (eqb b 35) bs)) bs) → Stops (skipped false) (drop (length (cond t (b ∷ gap (eqb b 35) bs) [])) (b ∷ bs))
    go true e ih = ih
    go false e ih = e

-- symbols
Fit : List Spelling → List ℕ → Option Spelling → Type 0
Fit l bs (Some s) = (begins s.bytes bs ≡ true) × ((s₂ : Spelling) → Member s₂ l → begins s₂.bytes bs ≡ true → length s₂.bytes ≤ length s.bytes)
Fit l bs None = (s₂ : Spelling) → Member s₂ l → begins s₂.bytes bs ≡ true → ⊥

Falling : List Spelling → Type 0
Falling [] = Unit {0}
Falling (s ∷ l) = ((s₂ : Spelling) → Member s₂ l → length s₂.bytes ≤ length s.bytes) × Falling l

fit : (l : List Spelling) → Falling l → (bs : List ℕ) → Fit l bs (symbol_in l bs)
unfolding Fit Falling
fit [] f bs = λ s₂ m h. absurd m
fit (s ∷ l) f bs = go (begins s.bytes bs) refl (symbol_in l bs) (fit l f.1 bs)
  where
    at_most : begins s.bytes bs ≡ true → (s₂ : Spelling) → Member s₂ (s ∷ l) → begins s₂.bytes bs ≡ true → length s₂.bytes ≤ length s.bytes
    at_most h s₂ (inl e) k = let q = ap (λ (z : Spelling). length z.bytes) e in omega arith
    at_most h s₂ (inr m) k = f.0 s₂ m

    later : begins s.bytes bs ≡ false → (o : Option Spelling) → Fit l bs o → Fit (s ∷ l) bs o
    later h (Some x) r = (r.0, λ s₂. λ m k. among s₂ m k)
      where
        among : (s₂ : Spelling) → Member s₂ (s ∷ l) → begins s₂.bytes bs ≡ true → length s₂.bytes ≤ length x.bytes
        among s₂ (inl e) k = absurd (false≢true (sym h ∙ ap (λ (z : Spelling). begins z.bytes bs) (sym e) ∙ k))
        among s₂ (inr m) k = r.1 s₂ m k
    later h None r = nobody
      where
        nobody : (s₂ : Spelling) → Member s₂ (s ∷ l) → begins s₂.bytes bs ≡ true → ⊥
        nobody s₂ (inl e) k = false≢true (sym h ∙ ap (λ (z : Spelling). begins z.bytes bs) (sym e) ∙ k)
        nobody s₂ (inr m) k = r s₂ m k

    go : (t : Bool) → begins s.bytes bs ≡ t → (o : Option Spelling) → Fit l bs o → Fit (s ∷ l) bs (cond t (Some s) o)
    go true e o r = (e, at_most e)
    go false e o r = later e o r

-- all from some point on have one byte
Ones : List Spelling → Type 0
Ones [] = Unit {0}
Ones (s ∷ l) = (length s.bytes ≡ 1) × Ones l

one_byte : (l : List Spelling) → Ones l → (s : Spelling) → Member s l → length s.bytes ≡ 1
unfolding Ones
one_byte [] o s m = absurd m
one_byte (x ∷ l) o s (inl e) = ap (λ (z : Spelling). length z.bytes) e ∙ o.0
one_byte (x ∷ l) o s (inr m) = one_byte l o.1 s m

ones_falling : (l : List Spelling) → Ones l → Falling l
unfolding Ones Falling
ones_falling [] o = tt
ones_falling (s ∷ l) o = ((λ s₂ m. let h = one_byte l o.1 s₂ m in let k = o.0 in omega arith), ones_falling l o.1)

Short : List Spelling → Type 0
Short [] = Unit {0}
Short (s ∷ l) = (1 ≤ length s.bytes) × (length s.bytes ≤ 2) × Short l

short : (l : List Spelling) → Short l → (s : Spelling) → Member s l → length s.bytes ≤ 2
unfolding Short
short [] o s m = absurd m
short (x ∷ l) o s (inl e) = let k = ap (λ (z : Spelling). length z.bytes) e in let h = o.1 in omega arith
short (x ∷ l) o s (inr m) = short l o.2 s m

symbols_short : Short symbols
unfolding Short
symbols_short = (omega arith, omega arith, (omega arith, omega arith, (omega arith, omega arith, (omega arith, omega arith, (omega arith, omega arith, (omega arith, omega arith, (omega arith, omega arith, (omega arith, omega arith, (omega arith, omega arith, (omega arith, omega arith, (omega arith, omega arith, (omega arith, omega arith, (omega arith, omega arith, (omega arith, omega arith, tt))))))))))))))

symbols_falling : Falling symbols
unfolding Falling Short Ones symbols_short
symbols_falling = (
  short (drop 1 symbols) symbols_short.2,
  (
    short (drop 2 symbols) symbols_short.2.2,
    (
      short (drop 3 symbols) symbols_short.2.2.2,
      (
        short (drop 4 symbols) symbols_short.2.2.2.2,
        ones_falling (drop 4 symbols) (refl, (refl, (refl, (refl, (refl, (refl, (refl, (refl, (refl, (refl, tt)))))))))),
      ),
    ),
  ),
)

nonempty : (l : List Spelling) → Short l → (bs : List ℕ) (s : Spelling) → symbol_in l bs ≡ Some s → 1 ≤ length s.bytes
unfolding Short
nonempty [] h bs s e = no_some e
nonempty (x ∷ l) h bs s e = go (begins x.bytes bs) e (nonempty l h.2 bs s)
  where
    go : (t : Bool) → cond t (Some x) (symbol_in l bs) ≡ Some s → (symbol_in l bs ≡ Some s → 1 ≤ length s.bytes) → 1 ≤ length s.bytes
    go true q ih = let k : x ≡ s = cc in let n = ap (λ (z : Spelling). length z.bytes) k in let m = h.0 in omega arith
    go false q ih = ih q

-- a symbol's part, or one byte
pub symbol_takes : (b : ℕ) (bs : List ℕ) (p : Place) → 1 ≤ length (symbol_part (symbol_in symbols (b ∷ bs)) b p).bytes
symbol_takes b bs p = go (symbol_in symbols (b ∷ bs)) refl
  where
    go : (o : Option Spelling) → symbol_in symbols (b ∷ bs) ≡ o → 1 ≤ length (symbol_part o b p).bytes
    go (Some s) e = nonempty symbols symbols_short (b ∷ bs) s e
    go None e = omega arith

symbol_joined : (b : ℕ) (bs : List ℕ) (p : Place) (o : Option Spelling) → Fit symbols (b ∷ bs) o →
    (symbol_part o b p).bytes ++ drop (length (symbol_part o b p).bytes) (b ∷ bs) ≡ b ∷ bs
unfolding Fit
symbol_joined b bs p (Some s) f = begins_front s.bytes (b ∷ bs) f.0
symbol_joined b bs p None f = refl

pub part_joined : (bs : List ℕ) (p : Place) → (part bs p).bytes ++ drop (length (part bs p).bytes) bs ≡ bs
part_joined [] p = refl
part_joined (b ∷ bs) p =
    let P : Part → Type 0 = λ t. t.bytes ++ drop (length t.bytes) (b ∷ bs) ≡ b ∷ bs in
    cond_both (letter b) _ _ P (λ _. ap (λ (z : List ℕ). b ∷ z) (run_front inner bs))
    (λ _. cond_both (digit b) _ _ P (λ _. ap (λ (z : List ℕ). b ∷ z) (run_front digit bs))
    (λ _. symbol_joined b bs p (symbol_in symbols (b ∷ bs)) (fit symbols symbols_falling (b ∷ bs))))

longest_symbol : (b : ℕ) (bs xs : List ℕ) → 1 ≤ length xs → letter b ≡ false → digit b ≡ false → xs ++ drop (length xs) (b ∷ bs) ≡ b ∷ bs →
    ((s₂ : Spelling) → Member s₂ symbols → begins s₂.bytes (b ∷ bs) ≡ true → length s₂.bytes ≤ length xs) → Longest xs (drop (length xs) (b ∷ bs))
longest_symbol b bs [] n l d e f = absurd (omega arith)
longest_symbol b bs (x ∷ xs) n l d e f =
    let h : x ≡ b = cc in (
      λ y. absurd (false≢true (sym l ∙ ap letter (sym h) ∙ y)),
      λ _ y. absurd (false≢true (sym d ∙ ap digit (sym h) ∙ y)),
      λ _ _ s₂ m y. f s₂ m (ap (begins s₂.bytes) (sym e) ∙ y),
    )

symbol_longest : (b : ℕ) (bs : List ℕ) (p : Place) → letter b ≡ false → digit b ≡ false → (o : Option Spelling) → symbol_in symbols (b ∷ bs) ≡ o → Fit symbols (b ∷ bs) o →
    Longest (symbol_part o b p).bytes (drop (length (symbol_part o b p).bytes) (b ∷ bs))
unfolding Fit
symbol_longest b bs p l d (Some s) e f = longest_symbol b bs s.bytes (nonempty symbols symbols_short (b ∷ bs) s e) l d (begins_front s.bytes (b ∷ bs) f.0) f.1
symbol_longest b bs p l d None e f = longest_symbol b bs (b ∷ []) (omega arith) l d refl (λ s₂ m y. absurd (f s₂ m y))

part_longest : (bs : List ℕ) (p : Place) → Longest (part bs p).bytes (drop (length (part bs p).bytes) bs)
part_longest [] p = refl
part_longest (b ∷ bs) p =
    let P : Part → Type 0 = λ t. Longest t.bytes (drop (length t.bytes) (b ∷ bs)) in
    cond_both (letter b) _ _ P (λ e. (λ _. run_stops inner bs, λ f _. absurd (false≢true (sym f ∙ e)), λ f _ _ _ _. absurd (false≢true (sym f ∙ e))))
    (λ l. cond_both (digit b) _ _ P (λ e. (λ f. absurd (false≢true (sym l ∙ f)), λ _ _. run_stops digit bs, λ _ f _ _ _. absurd (false≢true (sym f ∙ e))))
    (λ d. symbol_longest b bs p l d (symbol_in symbols (b ∷ bs)) refl (fit symbols symbols_falling (b ∷ bs))))

behind_append : (xs ys : List ℕ) (p : Place) → behind ys (behind xs p) ≡ behind (xs ++ ys) p
behind_append [] ys p = refl
behind_append (x ∷ xs) ys p = behind_append xs ys (onward x p)

pub steps_well : (bs : List ℕ) (p : Place) → StepsWell bs p
steps_well bs p =
    let g = gap false bs in
    let tail = drop (length g) bs in
    let q = behind g p in
    record {
      joined = ap (λ (z : List ℕ). g ++ z) (part_joined tail q) ∙ gap_front false bs;
      skips = gap_is false bs;
      clear = subst (Stops (skipped false)) (sym (part_joined tail q)) (gap_clear false bs);
      longest = part_longest tail q;
      goes_on = behind_append g (taken bs p) p;
    }
