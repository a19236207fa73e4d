-- Words passed in turn, and words that are expected in the same way.
use Rattle.std.proofs.Common.{◌≡◌, ℕ, Bool, true, false, cond, ◌&&◌, ◌||◌, List, [], ◌∷◌, ◌++◌, Some, None, Option, sym, refl, ap, ◌∙◌, append-nil}
use Rattle.std.proofs.lemmas.Bool.{false≢true, or_parts}
use Rattle.base.specs.declared.Place.{Place}
use Rattle.lexer.specs.Words.{Word, Text}
use Rattle.lexer.specs.Words.Word.{name, number, mark}
use Rattle.lexer.specs.Words.Text.{ends, fails, reads}
use Rattle.lexer.specs.Marks.{is}
use Rattle.lexer.proofs.Told.{mark_same}
use Rattle.lexer.specs.declared.Mark.{Mark}
use Rattle.lexer.specs.declared.Mark.TheVariants.{Dots, LessEqual, GreaterEqual, Less, Greater, Plus, Minus, OpenBrace, CloseBrace, OpenBracket, Var, Table, If, Else, While, Hear, Sense}
use Rattle.language_theory.specs.Rules.{words}
use Rattle.language_theory.specs.Names.{follows, names_behind}
use Rattle.language_theory.specs.Expected.{Expect, one, alternatives, optional, after, pick, step, complete, refusal, refuse}
use Rattle.language_theory.specs.Expected.Expect.{just, heads, body, span, const, condition, operator, operand, block, else_part, right, behind_minus, behind_name}
use Rattle.language_theory.specs.Expected.Terminal.{any_name, any_number}
use Rattle.language_theory.specs.Readings.{before, passed, first_is, is_name, first_names, begins_statement, begins_declaration, Alike}
use Rattle.language_theory.proofs.Passing.{by_step}

pub before-++ : (xs ys : List Word) (t : Text) → before (xs ++ ys) t ≡ before xs (before ys t)
before-++ [] ys t = refl
before-++ (x ∷ xs) ys t = ap (reads x) (before-++ xs ys t)

pub passed-++ : (xs ys past : List Word) → passed (xs ++ ys) past ≡ passed ys (passed xs past)
passed-++ [] ys past = refl
passed-++ (x ∷ xs) ys past = passed-++ xs ys (x ∷ past)

pub words_before : (ws : List Word) (t : Text) → words (before ws t) ≡ ws ++ words t
words_before [] t = refl
words_before (w ∷ ws) t = ap (λ (z : List Word). w ∷ z) (words_before ws t)

-- the first word of a text
pub first_mark : (m : Mark) (t : Text) → first_is m t ≡ true → (p : Place) × (t₂ : Text) × (t ≡ reads (mark m p) t₂)
first_mark m (ends p) e = absurd (false≢true e)
first_mark m (fails n p) e = absurd (false≢true e)
first_mark m (reads (name n p) t) e = absurd (false≢true e)
first_mark m (reads (number n p) t) e = absurd (false≢true e)
first_mark m (reads (mark m₂ p) t) e = (p, t, ap (λ (z : Mark). reads (mark z p) t) (sym (mark_same m m₂ e)))

pub first_name : (t : Text) → first_names t ≡ true → (n : List ℕ) × (p : Place) × (t₂ : Text) × (t ≡ reads (name n p) t₂)
first_name (ends p) e = absurd (false≢true e)
first_name (fails n p) e = absurd (false≢true e)
first_name (reads (name n p) t) e = (n, p, t, refl)
first_name (reads (number n p) t) e = absurd (false≢true e)
first_name (reads (mark m p) t) e = absurd (false≢true e)

-- Where every word is expected in the same way, a text is refused in the same way.
same_step : (k k₂ : List Expect) (past : List Word) (t : Text) → complete k ≡ complete k₂ →
    ((w : Word) (t₂ : Text) → t ≡ reads w t₂ → step k w ≡ step k₂ w) → refusal k past t ≡ refusal k₂ past t
same_step k k₂ past (ends p) e f = ap (λ (b : Bool). cond b None (refuse 5 p)) e
same_step k k₂ past (fails n p) e f = refl
same_step k k₂ past (reads w t) e f = ap (by_step past w t) (f w t refl)

-- what is left out where its first word does not come
skipped : (e : Expect) (k : List Expect) (past : List Word) (t : Text) → optional e ≡ true →
    ((w : Word) (t₂ : Text) → t ≡ reads w t₂ → after (alternatives e) w ≡ None) → refusal (e ∷ k) past t ≡ refusal k past t
skipped e k past t o f =
    same_step (e ∷ k) k past t (ap (λ (b : Bool). b && complete k) o)
    (λ w t₂ q. ap (λ (x : Option (List Expect)). pick x (optional e) k (step k w)) (f w t₂ q) ∙ ap (λ (b : Bool). pick None b k (step k w)) o)

none_of : (b : Bool) (more : List Expect) (o : Option (List Expect)) → b ≡ false → o ≡ None → cond b (Some more) o ≡ None
none_of true more o e f = absurd (false≢true (sym e))
none_of false more o e f = f

pub no_statement : (k : List Expect) (past : List Word) (t : Text) → begins_statement t ≡ false → refusal (body ∷ k) past t ≡ refusal k past t
no_statement k past t e = skipped body k past t refl go
  where
    at : (w : Word) → (is_name w || is If w || is While w) ≡ false → after (alternatives body) w ≡ None
    at (name n p) h = absurd (false≢true (sym h))
    at (number n p) h = refl
    at (mark m p) h =
        let a = or_parts (is If (mark m p)) (is While (mark m p)) h in
        none_of (is If (mark m p)) _ _ a.0 (none_of (is While (mark m p)) _ _ a.1 refl)

    go : (w : Word) (t₂ : Text) → t ≡ reads w t₂ → after (alternatives body) w ≡ None
    go w t₂ q = at w (sym (ap begins_statement q) ∙ e)

pub no_declaration : (k : List Expect) (past : List Word) (t : Text) → begins_declaration t ≡ false → refusal (heads ∷ k) past t ≡ refusal k past t
no_declaration k past t e = skipped heads k past t refl go
  where
    at : (w : Word) → (is Var w || is Table w) ≡ false → after (alternatives heads) w ≡ None
    at (name n p) h = refl
    at (number n p) h = refl
    at (mark m p) h =
        let a = or_parts (is Var (mark m p)) (is Table (mark m p)) h in
        none_of (is Var (mark m p)) _ _ a.0 (none_of (is Table (mark m p)) _ _ a.1 refl)

    go : (w : Word) (t₂ : Text) → t ≡ reads w t₂ → after (alternatives heads) w ≡ None
    go w t₂ q = at w (sym (ap begins_declaration q) ∙ e)

pub no_else : (k : List Expect) (past : List Word) (t : Text) → first_is Else t ≡ false → refusal (else_part ∷ k) past t ≡ refusal k past t
no_else k past t e = skipped else_part k past t refl (λ w t₂ q. none_of (is Else w) _ _ (sym (ap (first_is Else) q) ∙ e) refl)

pub no_shift : (k : List Expect) (past : List Word) (t : Text) → first_is Plus t ≡ false → first_is Minus t ≡ false → first_is OpenBracket t ≡ false →
    refusal (behind_name ∷ k) past t ≡ refusal k past t
no_shift k past t e f g =
    skipped behind_name k past t refl
    (λ w t₂ q. none_of (is Plus w) _ _ (sym (ap (first_is Plus) q) ∙ e) (none_of (is Minus w) _ _ (sym (ap (first_is Minus) q) ∙ f) (none_of (is OpenBracket w) _ _ (sym (ap (first_is OpenBracket) q) ∙ g) refl)))

-- What is expected where some alternatives are ruled out.
on_false : (b : Bool) (x y : Option (List Expect)) → b ≡ false → cond b x y ≡ y
on_false true x y e = absurd (false≢true (sym e))
on_false false x y e = refl

-- one alternative, told in its own words or by its first word
told : (b : Bool) (more k : List Expect) (s s₂ : Option (List Expect)) → pick (cond b (Some more) None) false k s ≡ pick (cond b (Some []) None) false (more ++ k) s₂
told true more k s s₂ = refl
told false more k s s₂ = refl

pub plain_const : (k : List Expect) (past : List Word) (t : Text) → first_is Minus t ≡ false → refusal (const ∷ k) past t ≡ refusal (just any_number ∷ k) past t
plain_const k past t e = same_step (const ∷ k) (just any_number ∷ k) past t refl (λ w t₂ q. at w (sym (ap (first_is Minus) q) ∙ e))
  where
    at : (w : Word) → is Minus w ≡ false → step (const ∷ k) w ≡ step (just any_number ∷ k) w
    at (name n p) h = refl
    at (number n p) h = refl
    at (mark m p) h = ap (λ (x : Option (List Expect)). pick x false k (step k (mark m p))) (on_false (is Minus (mark m p)) _ _ h)

pub span_const : (k : List Expect) (past : List Word) (t : Text) → refusal (span ∷ k) past t ≡ refusal (const ∷ one Dots ∷ const ∷ k) past t
span_const k past t = same_step (span ∷ k) (const ∷ one Dots ∷ const ∷ k) past t refl (λ w t₂ q. at w)
  where
    by : (b : Bool) (s s₂ : Option (List Expect)) → pick (cond b (Some (just any_number ∷ one Dots ∷ const ∷ [])) None) false k s ≡ pick (cond b (Some (just any_number ∷ [])) None) false (one Dots ∷ const ∷ k) s₂
    by true s s₂ = refl
    by false s s₂ = refl

    at : (w : Word) → step (span ∷ k) w ≡ step (const ∷ one Dots ∷ const ∷ k) w
    at (name n p) = refl
    at (number n p) = refl
    at (mark m p) = by (is Minus (mark m p)) (step k (mark m p)) (step (one Dots ∷ const ∷ k) (mark m p))

pub last_operator : (k : List Expect) (past : List Word) (t : Text) → first_is Less t ≡ false → first_is LessEqual t ≡ false → first_is Greater t ≡ false →
    refusal (operator ∷ k) past t ≡ refusal (one GreaterEqual ∷ k) past t
last_operator k past t e f g =
    same_step (operator ∷ k) (one GreaterEqual ∷ k) past t refl
    (λ w t₂ q. at w (sym (ap (first_is Less) q) ∙ e) (sym (ap (first_is LessEqual) q) ∙ f) (sym (ap (first_is Greater) q) ∙ g))
  where
    at : (w : Word) → is Less w ≡ false → is LessEqual w ≡ false → is Greater w ≡ false → step (operator ∷ k) w ≡ step (one GreaterEqual ∷ k) w
    at w h i j =
        ap (λ (x : Option (List Expect)). pick x false k (step k w))
        (on_false (is Less w) _ _ h ∙ on_false (is LessEqual w) _ _ i ∙ on_false (is Greater w) _ _ j)

pub operand_const : (k : List Expect) (past : List Word) (t : Text) → first_names t ≡ false → refusal (operand ∷ k) past t ≡ refusal (const ∷ k) past t
operand_const k past t e = same_step (operand ∷ k) (const ∷ k) past t refl (λ w t₂ q. at w (sym (ap first_names q) ∙ e))
  where
    at : (w : Word) → is_name w ≡ false → step (operand ∷ k) w ≡ step (const ∷ k) w
    at (name n p) h = absurd (false≢true (sym h))
    at (number n p) h = refl
    at (mark m p) h = refl

pub right_number : (k : List Expect) (past : List Word) (t : Text) → first_names t ≡ false → first_is Hear t ≡ false → first_is Sense t ≡ false → first_is Minus t ≡ false →
    refusal (right ∷ k) past t ≡ refusal (just any_number ∷ k) past t
right_number k past t e f g h =
    same_step (right ∷ k) (just any_number ∷ k) past t refl
    (λ w t₂ q. at w (sym (ap first_names q) ∙ e) (sym (ap (first_is Hear) q) ∙ f) (sym (ap (first_is Sense) q) ∙ g) (sym (ap (first_is Minus) q) ∙ h))
  where
    at : (w : Word) → is_name w ≡ false → is Hear w ≡ false → is Sense w ≡ false → is Minus w ≡ false → step (right ∷ k) w ≡ step (just any_number ∷ k) w
    at (name n p) a b c d = absurd (false≢true (sym a))
    at (number n p) a b c d = refl
    at (mark m p) a b c d =
        ap (λ (x : Option (List Expect)). pick x false k (step k (mark m p)))
        (on_false (is Minus (mark m p)) _ _ d ∙ on_false (is Hear (mark m p)) _ _ b ∙ on_false (is Sense (mark m p)) _ _ c)

pub minus_number : (k : List Expect) (past : List Word) (t : Text) → first_names t ≡ false → refusal (behind_minus ∷ k) past t ≡ refusal (just any_number ∷ k) past t
minus_number k past t e = same_step (behind_minus ∷ k) (just any_number ∷ k) past t refl (λ w t₂ q. at w (sym (ap first_names q) ∙ e))
  where
    at : (w : Word) → is_name w ≡ false → step (behind_minus ∷ k) w ≡ step (just any_number ∷ k) w
    at (name n p) h = absurd (false≢true (sym h))
    at (number n p) h = refl
    at (mark m p) h = refl

pub block_brace : (k : List Expect) (past : List Word) (t : Text) → refusal (block ∷ k) past t ≡ refusal (one OpenBrace ∷ body ∷ one CloseBrace ∷ k) past t
block_brace k past t =
    same_step (block ∷ k) (one OpenBrace ∷ body ∷ one CloseBrace ∷ k) past t refl
    (λ w t₂ q. told (is OpenBrace w) (body ∷ one CloseBrace ∷ []) k (step k w) (step (body ∷ one CloseBrace ∷ k) w))

pub condition_name : (k : List Expect) (past : List Word) (t : Text) → refusal (condition ∷ k) past t ≡ refusal (just any_name ∷ operator ∷ operand ∷ k) past t
condition_name k past t = same_step (condition ∷ k) (just any_name ∷ operator ∷ operand ∷ k) past t refl (λ w t₂ q. at w)
  where
    at : (w : Word) → step (condition ∷ k) w ≡ step (just any_name ∷ operator ∷ operand ∷ k) w
    at (name n p) = refl
    at (number n p) = refl
    at (mark m p) = refl

-- Names and levels behind more words.
unnamed : (m : Mark) (n : List ℕ) (p : Place) (past : List Word) → follows m past ≡ false → names_behind m (name n p ∷ past) ≡ names_behind m past
unnamed m n p past e = ap (λ (b : Bool). names_behind m past ++ cond b (n ∷ []) []) e ∙ append-nil (names_behind m past)

pub alike_name : (n : List ℕ) (p : Place) (past : List Word) → follows Var past ≡ false → follows Table past ≡ false → Alike (name n p ∷ past) past
alike_name n p past e f = record { vars = unnamed Var n p past e; tabs = unnamed Table n p past f; lev = refl }

pub alike_then : (a b c : List Word) → Alike a b → Alike b c → Alike a c
alike_then a b c x y = record { vars = x.vars ∙ y.vars; tabs = x.tabs ∙ y.tabs; lev = x.lev ∙ y.lev }
