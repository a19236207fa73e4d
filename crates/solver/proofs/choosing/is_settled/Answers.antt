use Rattle.std.proofs.Common.{◌≡◌, Bool, true, false, not, sym, ap, ◌∙◌, rules}
use Rattle.std.proofs.lemmas.Iterator.{cases_from_all, YieldsList-from_slice}
use Rattle.std.proofs.lemmas.Iterator.Consumers.{YieldsList-from_enumerate}
use Rattle.strategy_theory.proofs.Choosing.{Under, settled_all}
use Rattle.books.specs.Entries.{values}
use Rattle.solver.proofs.choosing.is_settled.Goals as goal

-- what the closure answers of an entry, r being what `rises` said
at_test : (b r t : Bool) (P : Type 0) → t ≡ not r → (P → r ≡ not b) → P → b ≡ t
at_test true r t P e f p = sym (e ∙ ap not (f p))
at_test false r t P e f p = sym (e ∙ ap not (f p))

pub returns : goal.returns
returns g c h len =
    let o = g.K.Kind.ops in
    let l = g.met.K.Kind.laws in
    let m = g.B.Book.equations c.args.book.now in
    let es = c.args.list.now in
    settled_all o l m es h len c.all.result
    (cases_from_all _ _ c.all.result (Under o l m (values es) true) (Under o l m (values es) false) c.all.ensures.ran (YieldsList-from_enumerate (YieldsList-from_slice es (cc)) (cc))
    (λ y q k. search (rules, at_test)) (λ y q k. search (rules, at_test)))
