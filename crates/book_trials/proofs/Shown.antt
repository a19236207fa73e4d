-- What an analysis shows, compared with numbers one after another; and what it shows once a run has settled.
use Rattle.std.proofs.Common.{◌≡◌, ℕ, ◌<◌, ◌≤◌, ◌⊎◌, inl, inr, List, [], map, length, get_or, Bool, true, Ok, Err, Result, ◌↔◌, true≢false, sym, refl, ap, ◌∙◌, arith}
use Rattle.std.specs.Bool.{IsTrue}
use Rattle.std.specs.Result.{is_err}
use Rattle.std.proofs.lemmas.Bool.{cases_lt}
use Rattle.std.proofs.lemmas.List.{length-map, get_or-map, ext_get_or}
use Rattle.kinds.specs.Kinds.{Ops}
use Rattle.books.specs.Books.{at}
use Rattle.base.specs.declared.Refusal.{Refusal}
use Rattle.books.specs.Entries.{values}
use Rattle.books.specs.declared.Entry.{Entry}
use Rattle.books.specs.declared.Alternative.{Alternative}
use Rattle.solver.specs.Theory.{Facts}
use Rattle.solver.specs.Lives.{State}
use Rattle.solver.specs.Lives.Call.{run}
use Rattle.solver.specs.Lives.Answer.{made}
use Rattle.solver.specs.Calls.{Shows, Begins, Prolongs}
use Rattle.solver.specs.Promises.{Least}
use Rattle.reference.specs.declared.extended.Extended.{Extended}
use Rattle.reference.specs.declared.extended.Extended.TheVariants.{NegInf}

module _ {V W : Type 0} (o : Ops V W) (f : V → Extended) (xs : List V) where
  -- an unknown is there, and has a value
  abbrev pub Has : ℕ → Extended → Type 0
  Has u y = (u < length xs) × (f (at o xs u) ≡ y)

  module _ (ys : List Extended) where
    pub same : length xs ≤ length ys → ((u : ℕ) → u < length ys → Has u (get_or ys u NegInf)) → map f xs ≡ ys
    same le has = ext_get_or NegInf (map f xs) ys (length-map xs f ∙ long (cases_lt (length xs) (length ys))) (λ u lt.
        let h : u < length xs = rw (length-map xs f) at lt in get_or-map f xs u o.least NegInf h ∙ (has u (omega arith)).1)
      where
        long : (length xs < length ys) ⊎ (length ys ≤ length xs) → length xs ≡ length ys
        long (inl h) = let l = (has (length xs) h).0 in absurd (omega arith)
        long (inr h) = omega arith

    pub each : map f xs ≡ ys → (length xs ≡ length ys) × ((u : ℕ) → u < length ys → Has u (get_or ys u NegInf))
    each s =
        let e : length xs ≡ length ys = sym (length-map xs f) ∙ ap length s in
        (e, λ u lt. let h : u < length xs = omega arith in (h, sym (get_or-map f xs u o.least NegInf h) ∙ ap (λ (l : List Extended). get_or l u NegInf) s))

-- all numbers are shown, and r is what is told of an unknown past them
pub none_past : {V W : Type 0} (o : Ops V W) (f : V → Extended) (es : List (Entry V)) (ys : List Extended) (r : Result V Refusal) (b : Bool) → Shows o es (length ys) r → b ≡ is_err r →
    ((u : ℕ) → u < length ys → Has o f (values es) u (get_or ys u NegInf)) → IsTrue b ↔ (map f (values es) ≡ ys)
none_past o f es ys (Ok v) b s e has =
    let n = length-map es (λ (x : Entry _). x.value) in (
      λ t. absurd (true≢false (sym t ∙ e)),
      λ m. let l = (each o f (values es) ys m).0 in let h = s.0 in absurd (omega arith),
    )
none_past o f es ys (Err x) b s e has =
    let n = length-map es (λ (x : Entry _). x.value) in
    let h = s.0 in
    (λ t. same o f (values es) ys (omega arith) has, λ m. e)

-- a run from set-up that answered settled shows the least solution
pub settled_least : {V W : Type 0} (o : Ops V W) (m : List (List (Alternative V W))) → Facts o m → (b k : ℕ) (t : Bool) (s s' : State V) → Begins o m s → Prolongs o m (run b) (made k t) s s' → t ≡ true → Least o m s'.values
settled_least o m facts b k t s s' begins goes e =
    let q = goes [] [] begins.life in
    q.2.least ((facts.rounds s'.strategy s'.values q.2.stage).rests.1 ((q.2.said t refl).0 e))
