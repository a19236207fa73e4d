-- The words of a text: it has exactly one list of words, which is computed.
use Rattle.std.proofs.Common.{◌≡◌, ℕ, zero, suc, ◌<◌, ◌≤◌, false, List, [], ◌∷◌, length, drop, refl, arith, length-drop}
use Rattle.std.proofs.lemmas.Bool.{cond_both}
use Rattle.lexer.specs.Words.{Word, Next, Text, Reads, Part, start, behind, letter, digit, gap, part, next, next_part, text_in, text}
use Rattle.lexer.specs.Words.Next.{word, fault, end}
use Rattle.lexer.proofs.Parts.{symbol_takes}
use Rattle.lexer.specs.Words.Text.{ends, fails, reads}
use Rattle.lexer.specs.Words.Reads.{at_end, at_fault, at_word}
use Rattle.base.specs.declared.Place.{Place}

-- the next word takes at least a byte
part_takes : (b : ℕ) (bs : List ℕ) (p : Place) → 1 ≤ length (part (b ∷ bs) p).bytes
part_takes b bs p =
    let P : Part → Type 0 = λ t. 1 ≤ length t.bytes in
    cond_both (letter b) _ _ P (λ _. omega arith)
    (λ _. cond_both (digit b) _ _ P (λ _. omega arith) (λ _. symbol_takes b bs p))

drop_short : (i : ℕ) (bs : List ℕ) → length (drop i bs) ≤ length bs
drop_short i bs = simp length-drop (omega arith)

part_shorter : (bs : List ℕ) (p : Place) (w : Word) → (next_part bs p).next ≡ word w → length (next_part bs p).rest < length bs
part_shorter [] p w e = absurd cc
part_shorter (b ∷ bs) p w e =
    let h = part_takes b bs p in
    let k = length-drop (length (part (b ∷ bs) p).bytes) (b ∷ bs) in omega arith

pub next_shorter : (bs : List ℕ) (p : Place) (w : Word) → (next bs p).next ≡ word w → length (next bs p).rest < length bs
next_shorter bs p w e =
    let h = part_shorter (drop (length (gap false bs)) bs) (behind (gap false bs) p) w e in
    let k = drop_short (length (gap false bs)) bs in omega arith

pub text_reads : (fuel : ℕ) (bs : List ℕ) (p : Place) → length bs < fuel → Reads bs p (text_in fuel bs p)
text_reads zero bs p h = absurd (omega arith)
text_reads (suc fuel) bs p h = go (next bs p).next refl (text_reads fuel (next bs p).rest (next bs p).at)
  where
    go : (n : Next) → (next bs p).next ≡ n → (length (next bs p).rest < fuel → Reads (next bs p).rest (next bs p).at (text_in fuel (next bs p).rest (next bs p).at)) →
        Reads bs p (elim n [ word w ↦ reads w (text_in fuel (next bs p).rest (next bs p).at) | fault n q ↦ fails n q | end q ↦ ends q ])
    go (word w) e ih = at_word e (ih (let k = next_shorter bs p w e in omega arith))
    go (fault n q) e ih = at_fault e
    go (end q) e ih = at_end e

pub reads_text : (bs : List ℕ) → Reads bs start (text bs)
reads_text bs = text_reads (suc (length bs)) bs start (omega arith)

-- one list of words
pub one_text : {bs : List ℕ} {p : Place} {t t₂ : Text} → Reads bs p t → Reads bs p t₂ → t ≡ t₂
one_text (at_end e) (at_end f) = cc
one_text (at_end e) (at_fault f) = cc
one_text (at_end e) (at_word f r) = cc
one_text (at_fault e) (at_end f) = cc
one_text (at_fault e) (at_fault f) = cc
one_text (at_fault e) (at_word f r) = cc
one_text (at_word e r) (at_end f) = cc
one_text (at_word e r) (at_fault f) = cc
one_text (at_word e r) (at_word f r₂) = let k = one_text r r₂ in cc
