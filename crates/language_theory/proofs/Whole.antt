-- The verdict on a whole text, from what a reader that went over it says.
use Rattle.std.proofs.Common.{◌≡◌, ℕ, suc, ◌<◌, ◌≤◌, Bool, true, false, cond, eqb, ◌⊎◌, List, [], ◌∷◌, ◌++◌, length, Some, None, Option, sym, refl, ap, ◌∙◌, subst, inl, inr, append-nil, arith}
use Rattle.std.specs.Option.{option_map}
use Rattle.base.specs.Reasons.{number_of}
use Rattle.base.specs.declared.Place.{Place}
use Rattle.base.specs.declared.Refusal.{Refusal}
use Rattle.lexer.specs.Words.{Word, Text, text}
use Rattle.lexer.specs.Words.Text.{ends}
use Rattle.std.proofs.lemmas.Bool.{eqb-true, cases_lt}
use Rattle.lexer.proofs.Reading.{reads_text}
use Rattle.lexer.proofs.Told.{no_some}
use Rattle.language_theory.specs.Grammar.{Tree, Script, Heads, Body}
use Rattle.language_theory.specs.Grammar.Statements.{done}
use Rattle.language_theory.specs.Grammar.Heads.{no_decl}
use Rattle.language_theory.specs.Grammar.Body.{no_stmt}
use Rattle.language_theory.specs.Grammar.Script.{script}
use Rattle.language_theory.specs.Graphs.{Variable, Table as ATable, Drawing, Graph, draw, blank_sheet, finished, graph, maker}
use Rattle.language_theory.specs.WellFormed.{Made}
use Rattle.language_theory.specs.WellFormed.Made.{none, next, again}
use Rattle.language_theory.specs.declared.Edge.{Edge}
use Rattle.language_theory.proofs.Drawings.{graph_made, maker_some}
use Rattle.language_theory.specs.Names.{Passes, Verdict}
use Rattle.language_theory.specs.Names.Outcome.{refused, drawn}
use Rattle.language_theory.specs.Names.Verdict.{too_many, fine}
use Rattle.language_theory.specs.Rules.{words}
use Rattle.language_theory.specs.Expected.{refusal, at_first}
use Rattle.language_theory.specs.Expected.Expect.{heads, body}
use Rattle.language_theory.specs.Readings.{before, passed, said, begins_statement, begins_declaration, Refuses, Unended, AtStart, Starts, Stated, Declared}
use Rattle.language_theory.proofs.Steps.{words_before, no_statement, no_declaration}
use Rattle.language_theory.proofs.Verdicts.{passes_with, refused_at}

-- the edge that makes a point stands among the edges exactly if the point is there
maker_last : (q : ℕ) (es : List Edge) (e : Edge) (p : Place) → maker q (es ++ (e ∷ [])) ≡ Some p → (maker q es ≡ Some p) ⊎ (e.target ≡ q)
maker_last q [] e p h = go (eqb e.target q) refl h
  where
    go : (b : Bool) → eqb e.target q ≡ b → cond b (Some e.place) None ≡ Some p → (None ≡ Some p) ⊎ (e.target ≡ q)
    go true k h = inr (eqb-true e.target q k)
    go false k h = inl h
maker_last q (x ∷ es) e p h = go (eqb x.target q) h (maker_last q es e p)
  where
    go : (b : Bool) → cond b (Some x.place) (maker q (es ++ (e ∷ []))) ≡ Some p → (maker q (es ++ (e ∷ [])) ≡ Some p → (maker q es ≡ Some p) ⊎ (e.target ≡ q)) →
        (cond b (Some x.place) (maker q es) ≡ Some p) ⊎ (e.target ≡ q)
    go true h ih = inl h
    go false h ih = ih h

maker_below : {es : List Edge} {n : ℕ} → Made es n → (q : ℕ) (p : Place) → maker q es ≡ Some p → q < n
maker_below none q p h = no_some h
maker_below (next {es = es} {n = n} e m s t) q p h = go (maker_last q es e p h) (maker_below m q p)
  where
    go : (maker q es ≡ Some p) ⊎ (e.target ≡ q) → (maker q es ≡ Some p → q < n) → q < suc n
    go (inl k) ih = let l = ih k in omega arith
    go (inr k) ih = omega arith
maker_below (again {es = es} {n = n} e m s t u) q p h = go (maker_last q es e p h) (maker_below m q p)
  where
    go : (maker q es ≡ Some p) ⊎ (e.target ≡ q) → (maker q es ≡ Some p → q < n) → q < n
    go (inl k) ih = ih k
    go (inr k) ih = omega arith

-- a refusal of the declarations, of the statements, or of what is left behind them
pub refuses_heads : (t : Text) (r : Refusal) → Refuses (heads ∷ []) AtStart t r → refusal at_first [] t ≡ said r
refuses_heads t r h = h (body ∷ []) [] refl

module _ {vs : List Variable} {ts : List ATable} {t t₁ : Text} (h : Declared vs ts t t₁) (n : begins_declaration t₁ ≡ false) where
  behind_heads : refusal at_first [] t ≡ refusal (body ∷ []) (passed h.words []) t₁
  behind_heads = h.goes (body ∷ []) ∙ no_declaration (body ∷ []) (passed h.words []) t₁ n

  pub refuses_body : (r : Refusal) → Refuses (body ∷ []) (Starts vs ts 8) t₁ r → refusal at_first [] t ≡ said r
  refuses_body r i = behind_heads ∙ i [] (passed h.words []) h.starts

  module _ {t₂ : Text} {d : Drawing} (b : Stated vs ts 8 t₁ t₂ blank_sheet d) (m : begins_statement t₂ ≡ false) where
    behind_body : refusal at_first [] t ≡ refusal [] (passed b.words (passed h.words [])) t₂
    behind_body = behind_heads ∙ b.goes [] (passed h.words []) h.starts ∙ no_statement [] _ t₂ m

    pub refuses_rest : (r : Refusal) → Unended t₂ r → refusal at_first [] t ≡ said r
    refuses_rest r i = behind_body ∙ i.refuses _

    module _ {p : Place} (e : t₂ ≡ ends p) where
      tree : Tree
      tree = record { declarations = h.declarations; statements = b.more done }

      its_words : words t ≡ h.words ++ b.words
      its_words =
          ap words (h.joined ∙ ap (before h.words) (b.joined ∙ ap (before b.words) e)) ∙ words_before h.words (before b.words (ends p)) ∙
          ap (λ (z : List Word). h.words ++ z) (words_before b.words (ends p) ∙ append-nil b.words)

      is_script : Script (words t) tree
      unfolding tree
      is_script =
          subst (λ (ws : List Word). Script ws tree) (sym its_words)
          (script (subst (Heads (h.words ++ b.words) b.words) (append-nil h.declarations) (h.derived b.words b.words [] no_decl))
          (subst (λ (ws : List Word). Body ws [] (b.more done)) (append-nil b.words) (b.derived [] [] done no_stmt)))

      is_drawn : graph tree ≡ finished vs ts d
      unfolding tree
      is_drawn =
          (λ i. finished (sym h.vars i) (sym h.tabs i) (draw (sym h.vars i) (sym h.tabs i) (b.more done) blank_sheet)) ∙
          ap (finished vs ts) (b.draws done)

      module _ (bs : List ℕ) (short : length bs ≤ 8192) (f : t ≡ text bs) where
        passes : Passes [] (text bs) tree
        passes = subst (λ (z : Text). Passes [] z tree) f (passes_with t tree is_script (behind_body ∙ ap (refusal [] (passed b.words (passed h.words []))) e))

        made : Made d.edges d.points
        made = subst (λ (g : Graph). Made g.edges g.points) is_drawn (graph_made tree)

        -- no edge makes point 96
        pub verdict_fine : maker 96 d.edges ≡ None → Verdict bs (drawn (finished vs ts d))
        verdict_fine k =
            subst (λ (g : Graph). Verdict bs (drawn g)) is_drawn (fine short (reads_text bs) passes (subst (λ (g : Graph). g.points ≤ 96) (sym is_drawn) (go (cases_lt 96 d.points))))
          where
            go : (96 < d.points) ⊎ (d.points ≤ 96) → d.points ≤ 96
            go (inl l) = no_some (sym k ∙ (maker_some made 96 (omega arith) l).1)
            go (inr l) = l

        -- an edge makes it
        pub verdict_many : (q : Place) → maker 96 d.edges ≡ Some q → Verdict bs (refused 13 (Some q))
        verdict_many q k =
            too_many short (reads_text bs) passes (subst (λ (g : Graph). 96 < g.points) (sym is_drawn) (maker_below made 96 q k)) (subst (λ (g : Graph). maker 96 g.edges ≡ Some q) (sym is_drawn) k)

-- the verdict of a refusal at a word
pub verdict_refused : (bs : List ℕ) (t : Text) (r : Refusal) (p : Place) → length bs ≤ 8192 → t ≡ text bs → r.place ≡ Some p → refusal at_first [] t ≡ said r →
    Verdict bs (refused (number_of r.reason) r.place)
verdict_refused bs t r p short f e h =
    subst (λ (o : Option Place). Verdict bs (refused (number_of r.reason) o)) (sym e)
    (refused_at bs (number_of r.reason) p short
    (ap (refusal at_first []) (sym f) ∙ h ∙ ap (option_map (λ (q : Place). record { number = number_of r.reason; place = q })) e))
