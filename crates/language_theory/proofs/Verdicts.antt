-- Each text has exactly one verdict, and it is computed.
use Rattle.std.proofs.Common.{◌≡◌, ℕ, zero, suc, ◌<◌, ◌≤◌, Bool, true, false, cond, ◌⊎◌, List, [], ◌∷◌, ◌++◌, length, Some, None, Option, sym, refl, ap, ◌∙◌, subst, inl, inr, append-nil, arith}
use Rattle.std.proofs.lemmas.Bool.{false≢true, cases_lt}
use Rattle.lexer.specs.Words.{Word, Text, place, text}
use Rattle.lexer.specs.Words.Text.{ends, fails, reads}
use Rattle.language_theory.specs.Grammar.{Tree, Script, Begins}
use Rattle.language_theory.specs.Names.{rule, next_is_bracket, in_order, Refused, Passes, Outcome, Verdict}
use Rattle.language_theory.specs.Names.Outcome.{refused, drawn}
use Rattle.language_theory.specs.Names.Verdict.{too_long, by_rule, too_many, fine}
use Rattle.lexer.proofs.Reading.{reads_text, one_text}
use Rattle.language_theory.specs.Names.Refused.{in_fault, at_end, unfit, broken, later}
use Rattle.language_theory.specs.Names.Passes.{ended, passed}
use Rattle.language_theory.specs.Expected.{Expect, step, steps, complete, at_first, Refusal, refusal}
use Rattle.base.specs.declared.Place.{Place}
use Rattle.language_theory.proofs.Machine.{steps_begins, complete_script, begins_steps, script_complete, steps_append}
use Rattle.lexer.proofs.Told.{no_some}
use Rattle.language_theory.proofs.Unique.{one_tree}
use Rattle.language_theory.proofs.Keeping.{Kept, kept_keeps, keeps_kept}
use Rattle.language_theory.specs.Rules.{Keeps, whole, words}
use Rattle.language_theory.specs.Graphs.{Graph, graph, maker, SmallTree}
use Rattle.language_theory.specs.WellFormed.{Made, WellFormed}
use Rattle.language_theory.proofs.Sizes.{reads_small, script_small}
use Rattle.language_theory.proofs.Drawings.{graph_made, maker_some}
use Rattle.language_theory.proofs.WellFormed.{well_formed}

-- what the computed refusal says of a text
abbrev pub Says : List Word → Text → Option Refusal → Type 0
Says past t (Some r) = Refused past t r.number r.place
Says past t None = (tree : Tree) × Passes past t tree

on_snoc : (past : List Word) (w : Word) (k : List Expect) → steps (Some at_first) (in_order past) ≡ Some k → steps (Some at_first) (in_order (w ∷ past)) ≡ step k w
on_snoc past w k q = steps_append (Some at_first) (in_order past) (w ∷ []) ∙ ap (λ (o : Option (List Expect)). steps o (w ∷ [])) q ∙ one (step k w)
  where
    one : (o : Option (List Expect)) → steps o [] ≡ o
    one None = refl
    one (Some k₂) = refl

pub says : (t : Text) (k : List Expect) (past : List Word) → steps (Some at_first) (in_order past) ≡ Some k → Says past t (refusal k past t)
says (ends p) k past q = go (complete k) refl
  where
    go : (b : Bool) → complete k ≡ b → Says past (ends p) (cond b None (Some (record { number = 5; place = p })))
    go true c = let s = complete_script (in_order past) k q c in (s.0, ended s.1)
    go false c = at_end (λ tree s. false≢true (sym c ∙ script_complete (in_order past) tree s k q))
says (fails n p) k past q = in_fault
says (reads w t) k past q = go (step k w) refl (λ k₂. says t k₂ (w ∷ past))
  where
    Goal : Option (List Expect) → Type 0
    Goal o = Says past (reads w t) (elim o [
      | None ↦ Some (record { number = 5; place = place w })
      | Some k₂ ↦ elim (rule past w (next_is_bracket t)) [ zero ↦ refusal k₂ (w ∷ past) t | suc n ↦ Some (record { number = suc n; place = place w }) ]
    ])

    then : (k₂ : List Expect) → Begins (in_order (w ∷ past)) → (n : ℕ) → rule past w (next_is_bracket t) ≡ n → Says (w ∷ past) t (refusal k₂ (w ∷ past) t) →
        Says past (reads w t) (elim n [ zero ↦ refusal k₂ (w ∷ past) t | suc n ↦ Some (record { number = suc n; place = place w }) ])
    then k₂ b zero e ih = on (refusal k₂ (w ∷ past) t) ih
      where
        on : (o : Option Refusal) → Says (w ∷ past) t o → Says past (reads w t) o
        on None h = (h.0, passed e h.1)
        on (Some r) h = later b e h
    then k₂ b (suc n) e ih = broken b e

    go : (o : Option (List Expect)) → step k w ≡ o → ((k₂ : List Expect) → steps (Some at_first) (in_order (w ∷ past)) ≡ Some k₂ → Says (w ∷ past) t (refusal k₂ (w ∷ past) t)) → Goal o
    go None e ih = unfit (λ b. let s = begins_steps (in_order (w ∷ past)) b in no_some (sym (on_snoc past w k q ∙ e) ∙ s.1))
    go (Some k₂) e ih = let st = on_snoc past w k q ∙ e in then k₂ (steps_begins (in_order (w ∷ past)) k₂ st) (rule past w (next_is_bracket t)) refl (ih k₂ st)

-- a text is refused in one way, and no refused text passes
pub one_refusal : {past : List Word} {t : Text} {n m : ℕ} {p q : Place} → Refused past t n p → Refused past t m q → (n ≡ m) × (p ≡ q)
one_refusal in_fault in_fault = (refl, refl)
one_refusal (at_end f) (at_end g) = (refl, refl)
one_refusal (unfit f) (unfit g) = (refl, refl)
one_refusal (unfit f) (broken b e) = absurd (f b)
one_refusal (unfit f) (later b e r) = absurd (f b)
one_refusal (broken b e) (unfit f) = absurd (f b)
one_refusal (broken b e) (broken b₂ e₂) = (sym e ∙ e₂, refl)
one_refusal (broken b e) (later b₂ e₂ r) = absurd (omega arith)
one_refusal (later b e r) (unfit f) = absurd (f b)
one_refusal (later b e r) (broken b₂ e₂) = absurd (omega arith)
one_refusal (later b e r) (later b₂ e₂ r₂) = one_refusal r r₂

append_assoc' : (a b c : List Word) → (a ++ b) ++ c ≡ a ++ (b ++ c)
append_assoc' [] b c = refl
append_assoc' (x ∷ a) b c = ap (λ (z : List Word). x ∷ z) (append_assoc' a b c)

begins_before : (past : List Word) (w : Word) → Begins (in_order (w ∷ past)) → Begins (in_order past)
begins_before past w b = record { more = w ∷ b.more; tree = b.tree; is = subst (λ (z : List Word). Script z b.tree) (append_assoc' (in_order past) (w ∷ []) b.more) b.is }

passes_begins : {past : List Word} {t : Text} {tree : Tree} → Passes past t tree → Begins (in_order past)
passes_begins {past} {tree = tree} (ended s) = record { more = []; tree = tree; is = subst (λ (z : List Word). Script z tree) (sym (append-nil (in_order past))) s }
passes_begins {past} (passed {w = w} e h) = begins_before past w (passes_begins h)

pub not_both : {past : List Word} {t : Text} {n : ℕ} {p : Place} {tree : Tree} → Refused past t n p → Passes past t tree → ⊥
not_both in_fault h = elim h [ ]
not_both (at_end f) (ended s) = f _ s
not_both (unfit f) (passed e h) = f (passes_begins h)
not_both (broken b e) (passed e₂ h) = omega arith
not_both (later b e r) (passed e₂ h) = not_both r h

pub one_passes : {past : List Word} {t : Text} {tree tree₂ : Tree} → Passes past t tree → Passes past t tree₂ → tree ≡ tree₂
one_passes (ended s) (ended s₂) = one_tree s s₂
one_passes (passed e h) (passed e₂ h₂) = one_passes h h₂

pub passes_script : {past : List Word} {t : Text} {tree : Tree} → Passes past t tree → Script (in_order past ++ words t) tree
passes_script {past} {tree = tree} (ended s) = subst (λ (z : List Word). Script z tree) (sym (append-nil (in_order past))) s
passes_script {past} {tree = tree} (passed {w = w} {t = t} e h) = subst (λ (z : List Word). Script z tree) (append_assoc' (in_order past) (w ∷ []) (words t)) (passes_script h)

-- a text without a refusal passes with the tree of its words
pub passes_with : (t : Text) (tree : Tree) → Script (words t) tree → refusal at_first [] t ≡ None → Passes [] t tree
passes_with t tree s e =
    let h : (tree₂ : Tree) × Passes [] t tree₂ = subst (Says [] t) e (says t at_first [] refl) in
    subst (λ (z : Tree). Passes [] t z) (one_tree (passes_script h.1) s) h.1

pub refused_at : (bs : List ℕ) (n : ℕ) (p : Place) → length bs ≤ 8192 → refusal at_first [] (text bs) ≡ Some (record { number = n; place = p }) → Verdict bs (refused n (Some p))
refused_at bs n p l e = by_rule l (reads_text bs) (subst (Says [] (text bs)) e (says (text bs) at_first [] refl))

-- every text has a verdict
pub some_verdict : (bs : List ℕ) → (o : Outcome) × Verdict bs o
some_verdict bs = go (cases_lt 8192 (length bs))
  where
    room : length bs ≤ 8192 → (tree : Tree) → Passes [] (text bs) tree → (96 < (graph tree).points) ⊎ ((graph tree).points ≤ 96) → (o : Outcome) × Verdict bs o
    room l tree h (inl k) = let m = maker_some (graph_made tree) 96 (omega arith) k in (refused 13 (Some m.0), too_many l (reads_text bs) h k m.1)
    room l tree h (inr k) = (drawn (graph tree), fine l (reads_text bs) h k)

    on : length bs ≤ 8192 → (r : Option Refusal) → Says [] (text bs) r → (o : Outcome) × Verdict bs o
    on l (Some r) s = (refused r.number (Some r.place), by_rule l (reads_text bs) s)
    on l None s = room l s.0 s.1 (cases_lt 96 (graph s.0).points)

    go : (8192 < length bs) ⊎ (length bs ≤ 8192) → (o : Outcome) × Verdict bs o
    go (inl h) = (refused 1 None, too_long h)
    go (inr h) = on h (refusal at_first [] (text bs)) (says (text bs) at_first [] refl)

-- and only one
at_text : {t t₂ : Text} {tree : Tree} → t ≡ t₂ → Passes [] t₂ tree → Passes [] t tree
at_text {tree = tree} e h = subst (λ (z : Text). Passes [] z tree) (sym e) h

pub one_verdict : {bs : List ℕ} {o o₂ : Outcome} → Verdict bs o → Verdict bs o₂ → o ≡ o₂
one_verdict (too_long h) (too_long h₂) = refl
one_verdict (too_long h) (by_rule l r f) = absurd (omega arith)
one_verdict (too_long h) (too_many l r f k m) = absurd (omega arith)
one_verdict (too_long h) (fine l r f k) = absurd (omega arith)
one_verdict (by_rule l r f) (too_long h) = absurd (omega arith)
one_verdict (too_many l r f k m) (too_long h) = absurd (omega arith)
one_verdict (fine l r f k) (too_long h) = absurd (omega arith)
one_verdict (by_rule l r f) (by_rule {n = n} {p = p} l₂ r₂ f₂) =
    let e = one_refusal f (subst (λ (z : Text). Refused [] z n p) (one_text r₂ r) f₂) in λ i. refused (e.0 i) (Some (e.1 i))
one_verdict (by_rule l r f) (too_many l₂ r₂ f₂ k m) = absurd (not_both f (at_text (one_text r r₂) f₂))
one_verdict (by_rule l r f) (fine l₂ r₂ f₂ k) = absurd (not_both f (at_text (one_text r r₂) f₂))
one_verdict (too_many l r f k m) (by_rule l₂ r₂ f₂) = absurd (not_both f₂ (at_text (one_text r₂ r) f))
one_verdict (fine l r f k) (by_rule l₂ r₂ f₂) = absurd (not_both f₂ (at_text (one_text r₂ r) f))
one_verdict (too_many {tree = a} {p = p} l r f k m) (too_many {tree = b} {p = q} l₂ r₂ f₂ k₂ m₂) =
    let e = one_passes f (at_text (one_text r r₂) f₂) in
    let s : Some p ≡ Some q = sym m ∙ ap (λ (z : Tree). maker 96 (graph z).edges) e ∙ m₂ in ap (refused 13) s
one_verdict (too_many {tree = a} l r f k m) (fine {tree = b} l₂ r₂ f₂ k₂) =
    let e = ap (λ (z : Tree). (graph z).points) (one_passes f (at_text (one_text r r₂) f₂)) in absurd (omega arith)
one_verdict (fine {tree = a} l r f k) (too_many {tree = b} l₂ r₂ f₂ k₂ m₂) =
    let e = ap (λ (z : Tree). (graph z).points) (one_passes f (at_text (one_text r r₂) f₂)) in absurd (omega arith)
one_verdict (fine l r f k) (fine l₂ r₂ f₂ k₂) = ap (λ (z : Tree). drawn (graph z)) (one_passes f (at_text (one_text r r₂) f₂))

-- A text passes exactly if it is whole and its tree keeps the rules.
passes_kept : {past : List Word} {t : Text} {tree : Tree} → Passes past t tree → Kept past (words t)
passes_kept (ended s) = tt
passes_kept (passed {t = ends p} e h) = (e, passes_kept h)
passes_kept (passed {t = fails n p} e h) = (e, passes_kept h)
passes_kept (passed {t = reads w t} e h) = (e, passes_kept h)

passes_whole : {past : List Word} {t : Text} {tree : Tree} → Passes past t tree → (p : Place) × (t ≡ whole (words t) p)
passes_whole (ended {p = p} s) = (p, refl)
passes_whole (passed {w = w} e h) = let r = passes_whole h in (r.0, ap (reads w) r.1)

pub passes_keeps : {t : Text} {tree : Tree} → Passes [] t tree → Keeps tree
passes_keeps h = kept_keeps (passes_script h) (passes_kept h)

pub passes_all : (t : Text) (tree : Tree) → Passes [] t tree → (ws : List Word) × (p : Place) × (t ≡ whole ws p) × Script ws tree × Keeps tree
passes_all t tree h = let r = passes_whole h in (words t, r.0, r.1, passes_script h, passes_keeps h)

kept_passes : (ws : List Word) (p : Place) (tree : Tree) (past : List Word) → Script (in_order past ++ ws) tree → Kept past ws → Passes past (whole ws p) tree
kept_passes [] p tree past s k = ended (subst (λ (z : List Word). Script z tree) (append-nil (in_order past)) s)
kept_passes (w ∷ []) p tree past s k = passed k.0 (kept_passes [] p tree (w ∷ past) (subst (λ (z : List Word). Script z tree) (sym (append_assoc' (in_order past) (w ∷ []) [])) s) k.1)
kept_passes (w ∷ v ∷ ws) p tree past s k = passed k.0 (kept_passes (v ∷ ws) p tree (w ∷ past) (subst (λ (z : List Word). Script z tree) (sym (append_assoc' (in_order past) (w ∷ []) (v ∷ ws))) s) k.1)

pub keeps_passes : (ws : List Word) (p : Place) (tree : Tree) → Script ws tree → Keeps tree → Passes [] (whole ws p) tree
keeps_passes ws p tree s k = kept_passes ws p tree [] s (keeps_kept s k)

-- what is drawn is well formed
is_drawn : {bs : List ℕ} {o : Outcome} → Verdict bs o → (g : Graph) → o ≡ drawn g → (tree : Tree) × (graph tree ≡ g) × Keeps tree × ((graph tree).points ≤ 96) × SmallTree tree
is_drawn (too_long h) g e = let z : ◌≡◌ {A = ℕ} 0 1 = cc in absurd (omega arith)
is_drawn (by_rule l r f) g e = let z : ◌≡◌ {A = ℕ} 0 1 = cc in absurd (omega arith)
is_drawn (too_many l r f k m) g e = let z : ◌≡◌ {A = ℕ} 0 1 = cc in absurd (omega arith)
is_drawn (fine {tree = tree} l r f k) g e = (tree, cc, passes_keeps f, k, script_small (passes_script f) (reads_small r))

pub drawn_well : (bs : List ℕ) (g : Graph) → Verdict bs (drawn g) → Made g.edges g.points × WellFormed g
drawn_well bs g v =
    let d = is_drawn v g refl in
    subst (λ (z : Graph). Made z.edges z.points × WellFormed z) d.1 (graph_made d.0, well_formed d.0 d.2 d.4 d.3)
