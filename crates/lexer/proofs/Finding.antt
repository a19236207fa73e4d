-- Answers of the word reader, by the first byte.
use Rattle.std.proofs.Common.{◌≡◌, ℕ, suc, ◌-◌, ◌≤◌, true, false, List, ◌++◌, length, take, drop, Some, None, Option, Ok, Err, Result, MatchResult, IsOkAnd, sym, refl, ap, ◌∙◌, arith, length-append, length-drop}
use Rattle.std.specs.List.{slice_get}
use Rattle.std.proofs.lemmas.List.{take_rest}
use Rattle.std.proofs.lemmas.Option.{none-some, some_pair_parts}
use Rattle.lexer.specs.Words.{Spelling, Part, Next, start, letter, digit, inner, run, gap, behind, letters_next, digits_next, symbols, symbol_in, symbol_part, part, next, text_at, Reads}
use Rattle.lexer.specs.Words.Reads.{at_end, at_fault, at_word}
use Rattle.lexer.proofs.Reading.{reads_text, text_reads, one_text}
use Rattle.lexer.specs.Words.Word.{mark}
use Rattle.lexer.specs.Words.Next.{word, fault, end}
use Rattle.lexer.specs.Reader.{sized, word_at, found_at, as_next, Finds, Goes, Room, leads}
use Rattle.lexer.specs.declared.Word.{Word}
use Rattle.lexer.specs.declared.Word.TheVariants.{Sign}
use Rattle.lexer.specs.declared.Fault.{Fault}
use Rattle.base.specs.declared.Reason.{Reason}
use Rattle.base.specs.declared.Place.{Place}
use Rattle.lexer.specs.declared.Mark.{Mark}
use Rattle.lexer.specs.Parts.{taken, WordsStand}
use Rattle.lexer.proofs.Parts.{gap_front, front_short, front_take, part_joined, steps_well}
use Rattle.lexer.proofs.Loops.{behind_line, behind_column, part_letter, part_digit, part_symbol}

-- bounds of lengths
pub part_within : {bs : List ℕ} {r : Result (Option Word) Reason} {n : ℕ} → Finds bs start r n → n ≤ length bs
part_within {bs} {r} {n} f =
    let h = front_short (part bs start).bytes bs (part_joined bs start) in
    let e = f.length_is in omega arith

-- a word that is found, or the reason why none is, with the end as a further case
pub or_end : (p : Place) (r : Result Word Reason) (s : Result (Option Word) Reason) → MatchResult r (λ w. IsOkAnd s (λ o. o ≡ Some w)) (λ e. s ≡ Err e) → found_at p s ≡ word_at p r
or_end p (Ok w) (Ok o) h = ap (λ (z : Option Word). found_at p (Ok z)) h
or_end p (Ok w) (Err e) h = absurd h
or_end p (Err e) s h = ap (found_at p) h

pub finds_letter : (bs xs : List ℕ) (b : ℕ) (p : Place) (r : Result (Option Word) Reason) → Some b ≡ slice_get bs 0 → letter b ≡ true → xs ≡ run inner bs →
    found_at p r ≡ letters_next xs p → Finds bs p r (length xs)
finds_letter bs xs b p r h l e f =
    let q = sym (part_letter bs b p h l) in
    record { found = f ∙ ap (λ (z : List ℕ). letters_next z p) e ∙ ap (λ (t : Part). t.next) q; length_is = ap length e ∙ ap (λ (t : Part). length t.bytes) q }

pub finds_digit : (bs xs : List ℕ) (b : ℕ) (p : Place) (r : Result (Option Word) Reason) → Some b ≡ slice_get bs 0 → letter b ≡ false → digit b ≡ true → xs ≡ run digit bs →
    found_at p r ≡ digits_next xs p → Finds bs p r (length xs)
finds_digit bs xs b p r h l d e f =
    let q = sym (part_digit bs b p h l d) in
    record { found = f ∙ ap (λ (z : List ℕ). digits_next z p) e ∙ ap (λ (t : Part). t.next) q; length_is = ap length e ∙ ap (λ (t : Part). length t.bytes) q }

pub finds_symbol : (bs : List ℕ) (b : ℕ) (p : Place) (n : ℕ) (m : Mark) → Some b ≡ slice_get bs 0 → letter b ≡ false → digit b ≡ false →
    Some (n, m) ≡ sized (symbol_in symbols bs) → Finds bs p (Ok (Some (Sign m))) n
finds_symbol bs b p n m h l d e = go (symbol_in symbols bs) e (sym (part_symbol bs b p h l d))
  where
    go : (o : Option Spelling) → Some (n, m) ≡ sized o → symbol_part o b p ≡ part bs p → Finds bs p (Ok (Some (Sign m))) n
    go None k q = absurd (none-some (n, m) (sym k))
    go (Some s) k q =
        let x = some_pair_parts n (length s.bytes) m s.mark k in
        record { found = ap (λ (z : Mark). word (mark z p)) x.1 ∙ ap (λ (t : Part). t.next) q; length_is = x.0 ∙ ap (λ (t : Part). length t.bytes) q }

-- what is left of a slice behind its first n bytes
abbrev pub past : ℕ → List ℕ → List ℕ
past n bs = take (length bs - n) (drop n bs)

-- one step, from what its parts answer
pub goes : (bs : List ℕ) (p : Place) (r : Result (Option Word) Reason) (s : Result (Option Word × Place) Fault) (g n : ℕ) (q at : Place) → Room p (length bs) →
    g ≡ length (gap false bs) → (Room p (length (take g bs)) → q ≡ behind (take g bs) p) → Finds (past g bs) q r n → as_next s ≡ found_at q r →
    (Room q (length (take n (past g bs))) → at ≡ behind (take n (past g bs)) q) → Goes bs p s (past n (past g bs)) at
goes bs p r s g n q at room eg eq f es ea =
    let G = gap false bs in
    let T = past g bs in
    let tg : take g bs ≡ G = ap (λ (k : ℕ). take k bs) eg ∙ front_take G bs (gap_front false bs) in
    let sg = front_short G bs (gap_front false bs) in
    let lg = ap length tg in
    let q₁ : q ≡ behind G p = eq (omega arith, omega arith) ∙ ap (λ (z : List ℕ). behind z p) tg in
    let U = drop (length G) bs in
    let dg : T ≡ U = take_rest bs g ∙ ap (λ (k : ℕ). drop k bs) eg in
    let P = part U (behind G p) in
    let pq : part T q ≡ P = λ i. part (dg i) (q₁ i) in
    let en : n ≡ length P.bytes = f.length_is ∙ ap (λ (t : Part). length t.bytes) pq in
    let tn : take n T ≡ P.bytes = (λ i. take (en i) (dg i)) ∙ front_take P.bytes U (part_joined U (behind G p)) in
    let sn = front_short P.bytes U (part_joined U (behind G p)) in
    let ln = ap length tn in
    let st = length-drop (length G) bs in
    let bl = behind_line G p in
    let bc = behind_column G p in
    let ql = ap (λ (z : Place). z.line) q₁ in
    let qc = ap (λ (z : Place). z.column) q₁ in
    record {
      found = es ∙ f.found ∙ ap (λ (t : Part). t.next) pq;
      rest_is = take_rest T n ∙ (λ i. drop (en i) (dg i));
      at_is = ea (omega arith, omega arith) ∙ (λ i. behind (tn i) (q₁ i));
    }

-- the words before a step are what is found and the words behind it
pub text_next : (bs : List ℕ) (p : Place) → text_at bs p ≡ leads (next bs p).next (text_at (next bs p).rest (next bs p).at)
text_next bs p = go (next bs p).next refl
  where
    all : (cs : List ℕ) (q : Place) → Reads cs q (text_at cs q)
    all cs q = text_reads (suc (length cs)) cs q (omega arith)

    go : (n : Next) → (next bs p).next ≡ n → text_at bs p ≡ leads n (text_at (next bs p).rest (next bs p).at)
    go (word w) e = one_text (all bs p) (at_word e (all (next bs p).rest (next bs p).at))
    go (fault n q) e = one_text (all bs p) (at_fault e)
    go (end q) e = one_text (all bs p) (at_end e)

pub goes_text : {bs : List ℕ} {p : Place} {r : Result (Option Word × Place) Fault} {rest : List ℕ} {at : Place} → Goes bs p r rest at → text_at bs p ≡ leads (as_next r) (text_at rest at)
goes_text {bs} {p} g = text_next bs p ∙ (λ i. leads (sym g.found i) (text_at (sym g.rest_is i) (sym g.at_is i)))

-- room for the text is room for what is left of it
pub room_kept : {bs : List ℕ} {p : Place} {r : Result (Option Word × Place) Fault} {rest : List ℕ} {at : Place} → Goes bs p r rest at → Room p (length bs) → Room at (length rest)
room_kept {bs} {p} g room =
    let w = steps_well bs p in
    let xs = gap false bs ++ taken bs p in
    let e = ap length w.joined in
    let a = length-append (gap false bs) (taken bs p ++ (next bs p).rest) in
    let b = length-append (taken bs p) (next bs p).rest in
    let c = length-append (gap false bs) (taken bs p) in
    let l = behind_line xs p in
    let k = behind_column xs p in
    let ql = ap (λ (z : Place). z.line) (g.at_is ∙ w.goes_on) in
    let qc = ap (λ (z : Place). z.column) (g.at_is ∙ w.goes_on) in
    let n = ap length g.rest_is in
    (omega arith, omega arith)

pub words_stand : WordsStand
words_stand = record { steps = steps_well; computed = reads_text; one = λ bs t h. one_text h (reads_text bs) }
