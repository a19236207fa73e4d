-- Statements and blocks, passed or refused.
use Rattle.std.proofs.Common.{◌≡◌, ℕ, suc, ◌+◌, ◌<◌, Bool, true, false, cond, not, leb, List, [], ◌∷◌, ◌++◌, length, sym, refl, ap, ◌∙◌, subst, append_assoc, arith, length-append}
use Rattle.std.proofs.lemmas.Bool.{lt-leb, le-leb}
use Rattle.base.specs.declared.Place.{Place}
use Rattle.base.specs.declared.Refusal.{Refusal}
use Rattle.lexer.specs.Words.{Word, Text, among}
use Rattle.lexer.specs.Words.Word.{name, mark}
use Rattle.lexer.specs.Words.Text.{reads}
use Rattle.lexer.specs.declared.Mark.TheVariants.{Becomes, OpenBrace, CloseBrace, Semicolon, If, Else, While}
use Rattle.language_theory.specs.declared.Action.TheVariants.{Skip}
use Rattle.language_theory.specs.Grammar.{Side, Condition, Body}
use Rattle.language_theory.specs.Grammar.Statements.{done, assign, choose, repeat}
use Rattle.language_theory.specs.Grammar.Body.{no_stmt, assignment, if_stmt, if_else_stmt, while_stmt}
use Rattle.language_theory.specs.Graphs.{Variable, Table as ATable, Drawing, var_names, var_number, fresh, back, stand, holds, fails as negation, draw_assign, draw}
use Rattle.language_theory.specs.Names.{level, next_is_bracket}
use Rattle.language_theory.specs.Rules.{words}
use Rattle.language_theory.specs.Expected.{Expect, one, refusal, refuse}
use Rattle.language_theory.specs.Expected.Expect.{body, condition, block, else_part, right}
use Rattle.language_theory.specs.Readings.{before, passed, first_is, first_names, begins_statement, Refuses, Anywhere, Alike, Over, is_right, is_condition, Known, KnowsBehind, KnowsAsks, Starts, Inner, Stated, Statement, Blocked, Elsed, assigning, choosing, repeating, joined_at}
use Rattle.language_theory.specs.Readings.Behind.{behind}
use Rattle.language_theory.specs.Readings.Asks.{behind_if, behind_while}
use Rattle.language_theory.specs.Readings.Boundary.{behind_semicolon, behind_open, behind_close}
use Rattle.language_theory.proofs.Passing.{decided_word}
use Rattle.language_theory.proofs.Steps.{before-++, passed-++, words_before, first_mark, first_name, no_statement, no_else, block_brace}
use Rattle.language_theory.proofs.Pasts.{boundary_rule, boundary_alike}
use Rattle.language_theory.proofs.Sides.{variable_decides}

module _ (vs : List Variable) (ts : List ATable) where
  known_alike : (a b : List Word) → Alike a b → Known vs ts b → Known vs ts a
  known_alike a b x y = record { vars = x.vars ∙ y.vars; tabs = x.tabs ∙ y.tabs }

  -- nothing, and one behind the other
  pub stated_none : (l : ℕ) (t : Text) (d : Drawing) → Stated vs ts l t t d d
  stated_none l t d =
      record { words = []; joined = refl; more = λ s. s; derived = λ r₀ r rest b. b; draws = λ rest. refl; stays = λ past y. y; goes = λ k past y. refl }

  pub stated_then : {l : ℕ} {t t₁ t₂ : Text} {d d₁ d₂ : Drawing} → Stated vs ts l t t₁ d d₁ → Stated vs ts l t₁ t₂ d₁ d₂ → Stated vs ts l t t₂ d d₂
  stated_then {t₂ = t₂} x y =
      let xs = x.words in
      let ys = y.words in
      record {
        words = xs ++ ys;
        joined = x.joined ∙ ap (before xs) y.joined ∙ sym (before-++ xs ys t₂);
        more = λ s. x.more (y.more s);
        derived = λ r₀ r rest b. rw append_assoc (x.derived (ys ++ r₀) r (y.more rest) (y.derived r₀ r rest b));
        draws = λ rest. x.draws (y.more rest) ∙ y.draws rest;
        stays = λ past z. rw passed-++ (y.stays (passed xs past) (x.stays past z));
        goes = λ k past z. x.goes k past z ∙ y.goes k (passed xs past) (x.stays past z) ∙ ap (λ (p : List Word). refusal (body ∷ k) p t₂) (sym (passed-++ xs ys past));
      }

  -- a statement has a first word
  one_or_more : {l : ℕ} {t t₂ : Text} {d d₂ : Drawing} (w : Word) (ws : List Word) (s : Stated vs ts l t t₂ d d₂) → s.words ≡ w ∷ ws → Statement vs ts l t t₂ d d₂
  one_or_more w ws s e = record { stated = s; some = let h = ap length e in omega arith }

  -- what is left is shorter behind a statement
  pub shorter : {l : ℕ} {t t₂ : Text} {d d₂ : Drawing} → Statement vs ts l t t₂ d d₂ → length (words t₂) < length (words t)
  shorter {t = t} {t₂ = t₂} s =
      let xs = s.stated.words in
      let e = ap length (ap words s.stated.joined ∙ words_before xs t₂) in
      let a = length-append xs (words t₂) in
      let h = s.some in
      omega arith

  -- assignments
  pub body_assigning : (t : Text) (k : List Expect) (past : List Word) → first_names t ≡ true → refusal (body ∷ k) past t ≡ refusal (assigning ++ (body ∷ k)) past t
  body_assigning t k past e = let h = first_name t e in ap (refusal (body ∷ k) past) h.3 ∙ ap (refusal (assigning ++ (body ∷ k)) past) (sym h.3)

  module _ {l : ℕ} {n : List ℕ} {p : Place} {t t₁ : Text} (e : t ≡ reads (name n p) t₁) where
    pub target_decides : (x : Bool) → among n (var_names vs) ≡ x → (k : List Expect) (past : List Word) → Starts vs ts l past →
        refusal (assigning ++ k) past t ≡ cond (not x) (refuse 8 p) (refusal (one Becomes ∷ right ∷ one Semicolon ∷ k) (name n p ∷ past) t₁)
    target_decides x h k past y =
        ap (refusal (assigning ++ k) past) e ∙
        variable_decides vs ts x (assigning ++ k) (one Becomes ∷ right ∷ one Semicolon ∷ k) past n p t₁ refl (boundary_rule y.boundary n p (next_is_bracket t₁)) y.known h

    module _ (h : among n (var_names vs) ≡ true) where
      pub refuses_becomes : (r : Refusal) → Refuses (one Becomes ∷ []) Anywhere t₁ r → Refuses assigning (Starts vs ts l) t r
      refuses_becomes r i k past y = target_decides true h k past y ∙ i (right ∷ one Semicolon ∷ k) (name n p ∷ past) tt

      module _ {q : Place} {t₂ : Text} (f : t₁ ≡ reads (mark Becomes q) t₂) where
        becoming : (k : List Expect) (past : List Word) → Starts vs ts l past → refusal (assigning ++ k) past t ≡ refusal (right ∷ one Semicolon ∷ k) (mark Becomes q ∷ name n p ∷ past) t₂
        becoming k past y = target_decides true h k past y ∙ ap (refusal (one Becomes ∷ right ∷ one Semicolon ∷ k) (name n p ∷ past)) f

        begun : (past : List Word) → Starts vs ts l past → KnowsBehind vs ts Becomes (mark Becomes q ∷ name n p ∷ past)
        begun past y = record { follows = behind; known = known_alike _ past (boundary_alike_mark past y) y.known }
          where
            boundary_alike_mark : (past : List Word) → Starts vs ts l past → Alike (mark Becomes q ∷ name n p ∷ past) past
            boundary_alike_mark past y = let a = boundary_alike y.boundary n p in record { vars = a.vars; tabs = a.tabs; lev = a.lev }

        pub refuses_side : (r : Refusal) → Refuses (right ∷ []) (KnowsBehind vs ts Becomes) t₂ r → Refuses assigning (Starts vs ts l) t r
        refuses_side r i k past y = becoming k past y ∙ i (one Semicolon ∷ k) _ (begun past y)

        module _ {a : Side} {t₃ : Text} (o : Over (right ∷ []) (KnowsBehind vs ts Becomes) (is_right a) t₂ t₃) where
          pub refuses_semicolon : (r : Refusal) → Refuses (one Semicolon ∷ []) Anywhere t₃ r → Refuses assigning (Starts vs ts l) t r
          refuses_semicolon r i k past y = becoming k past y ∙ o.goes (one Semicolon ∷ k) _ (begun past y) ∙ i k _ tt

          pub stated_assign : (s : Place) (t₄ : Text) (d d₂ : Drawing) → t₃ ≡ reads (mark Semicolon s) t₄ → d₂ ≡ draw_assign vs ts p (var_number vs ts n) a d → Statement vs ts l t t₄ d d₂
          stated_assign s t₄ d d₂ g i =
              let ws = o.words in
              one_or_more (name n p) (mark Becomes q ∷ (ws ++ (mark Semicolon s ∷ []))) (record {
                words = name n p ∷ mark Becomes q ∷ (ws ++ (mark Semicolon s ∷ []));
                joined = e ∙ ap (reads (name n p)) (f ∙ ap (reads (mark Becomes q)) (o.joined ∙ ap (before ws) g ∙ sym (before-++ ws (mark Semicolon s ∷ []) t₄)));
                more = assign p n a;
                derived = λ r₀ r rest b. rw append_assoc (assignment (o.derived (mark Semicolon s ∷ r₀)) b);
                draws = λ rest. ap (draw vs ts rest) (sym i);
                stays = λ past y. rw passed-++ (over past y);
                goes = λ k past y.
                    body_assigning t k past (ap first_names e) ∙ becoming (body ∷ k) past y ∙ o.goes (one Semicolon ∷ body ∷ k) _ (begun past y) ∙
                    ap (refusal (one Semicolon ∷ body ∷ k) (passed ws (mark Becomes q ∷ name n p ∷ past))) g ∙
                    ap (λ (z : List Word). refusal (body ∷ k) z t₄) (sym (passed-++ ws (mark Semicolon s ∷ []) (mark Becomes q ∷ name n p ∷ past)));
              }) refl
            where
              over : (past : List Word) → Starts vs ts l past → Starts vs ts l (mark Semicolon s ∷ passed o.words (mark Becomes q ∷ name n p ∷ past))
              over past y =
                  let b = boundary_alike y.boundary n p in
                  let w = o.alike (mark Becomes q ∷ name n p ∷ past) (begun past y) in
                  let v = y.deep in
                  let u = w.lev ∙ b.lev in
                  record {
                    boundary = behind_semicolon;
                    known = record { vars = w.vars ∙ b.vars ∙ y.known.vars; tabs = w.tabs ∙ b.tabs ∙ y.known.tabs };
                    deep = ap (λ (z : ℕ). z + l) u ∙ v;
                  }

  -- blocks
  module _ {o : Place} {t t₁ : Text} (e : t ≡ reads (mark OpenBrace o) t₁) where
    brace_decides : (x : Bool) (k : List Expect) (past : List Word) → leb 8 (level past) ≡ x →
        refusal (block ∷ k) past t ≡ cond x (refuse 6 o) (refusal (body ∷ one CloseBrace ∷ k) (mark OpenBrace o ∷ past) t₁)
    brace_decides x k past h =
        block_brace k past t ∙ ap (refusal (one OpenBrace ∷ body ∷ one CloseBrace ∷ k) past) e ∙
        decided_word (one OpenBrace ∷ body ∷ one CloseBrace ∷ k) past (mark OpenBrace o) t₁ (body ∷ one CloseBrace ∷ k) 5 x refl (ap (λ (b : Bool). cond b 6 0) h)

    pub refuses_level : (k : List Expect) (past : List Word) → Inner vs ts 0 past → refusal (block ∷ k) past t ≡ refuse 6 o
    refuses_level k past y = let h = y.deep in brace_decides true k past (le-leb 8 (level past) (omega arith))

    module _ {l : ℕ} where
      opening : (k : List Expect) (past : List Word) → Inner vs ts (suc l) past → refusal (block ∷ k) past t ≡ refusal (body ∷ one CloseBrace ∷ k) (mark OpenBrace o ∷ past) t₁
      opening k past y = let h = y.deep in brace_decides false k past (lt-leb 8 (level past) (omega arith))

      entered : (past : List Word) → Inner vs ts (suc l) past → Starts vs ts l (mark OpenBrace o ∷ past)
      entered past y = let h = y.deep in record { boundary = behind_open; known = record { vars = y.known.vars; tabs = y.known.tabs }; deep = omega arith }

      pub refuses_inside : (r : Refusal) → Refuses (body ∷ []) (Starts vs ts l) t₁ r → Refuses (block ∷ []) (Inner vs ts (suc l)) t r
      refuses_inside r i k past y = opening k past y ∙ i (one CloseBrace ∷ k) _ (entered past y)

      module _ {t₂ : Text} {d d₂ : Drawing} (b : Stated vs ts l t₁ t₂ d d₂) (n : begins_statement t₂ ≡ false) where
        closing : (k : List Expect) (past : List Word) → Inner vs ts (suc l) past → refusal (block ∷ k) past t ≡ refusal (one CloseBrace ∷ k) (passed b.words (mark OpenBrace o ∷ past)) t₂
        closing k past y = opening k past y ∙ b.goes (one CloseBrace ∷ k) _ (entered past y) ∙ no_statement (one CloseBrace ∷ k) _ t₂ n

        pub refuses_brace : (r : Refusal) → Refuses (one CloseBrace ∷ []) Anywhere t₂ r → Refuses (block ∷ []) (Inner vs ts (suc l)) t r
        refuses_brace r i k past y = closing k past y ∙ i k _ tt

        pub blocked : (x : Place) (t₃ : Text) → t₂ ≡ reads (mark CloseBrace x) t₃ → Blocked vs ts (suc l) t t₃ d d₂
        blocked x t₃ f =
            record {
              opened = o;
              closed = x;
              inside = b.words;
              joined = e ∙ ap (reads (mark OpenBrace o)) (b.joined ∙ ap (before b.words) f);
              tree = b.more done;
              derived = λ r. b.derived (mark CloseBrace x ∷ r) (mark CloseBrace x ∷ r) done no_stmt;
              draws = b.draws done;
              stays = λ past y. left past (b.stays _ (entered past y)) y.deep;
              goes = λ k past y. closing k past y ∙ ap (refusal (one CloseBrace ∷ k) (passed b.words (mark OpenBrace o ∷ past))) f;
            }
          where
            left : (past : List Word) → Starts vs ts l (passed b.words (mark OpenBrace o ∷ past)) → level past + suc l ≡ 8 →
                Starts vs ts (suc l) (mark CloseBrace x ∷ passed b.words (mark OpenBrace o ∷ past))
            left past s h = let v = s.deep in record { boundary = behind_close; known = record { vars = s.known.vars; tabs = s.known.tabs }; deep = omega arith }

  -- else
  pub elsed_none : (l : ℕ) (t : Text) (d : Drawing) → first_is Else t ≡ false → Elsed vs ts l t t d d
  elsed_none l t d e =
      record {
        words = [];
        joined = refl;
        tree = done;
        derived = λ p o x ws ws₁ ws₃ r c b rest h i j. if_stmt h i j;
        draws = refl;
        stays = λ past y. y;
        goes = λ k past y. no_else k past t e;
      }

  else_inner : (l : ℕ) (q : Place) (past : List Word) → Starts vs ts l past → Inner vs ts l (mark Else q ∷ past)
  else_inner l q past y = record { known = record { vars = y.known.vars; tabs = y.known.tabs }; deep = y.deep }

  pub elsed_some : (l : ℕ) (q : Place) (t t₁ t₂ : Text) (d d₂ : Drawing) → t ≡ reads (mark Else q) t₁ → Blocked vs ts l t₁ t₂ d d₂ → Elsed vs ts l t t₂ d d₂
  elsed_some l q t t₁ t₂ d d₂ e b =
      let ws = b.inside in
      let o = b.opened in
      let x = b.closed in
      record {
        words = mark Else q ∷ mark OpenBrace o ∷ (ws ++ (mark CloseBrace x ∷ []));
        joined = e ∙ ap (reads (mark Else q)) (b.joined ∙ ap (reads (mark OpenBrace o)) (sym (before-++ ws (mark CloseBrace x ∷ []) t₂)));
        tree = b.tree;
        derived = λ p o₁ x₁ ws₀ ws₁ ws₃ r c b₁ rest h i j.
            if_else_stmt h (subst (λ (z : List Word). Body ws₁ (mark CloseBrace x₁ ∷ mark Else q ∷ mark OpenBrace o ∷ z) b₁) (append_assoc ws (mark CloseBrace x ∷ []) ws₃) i) (b.derived ws₃) j;
        draws = b.draws;
        stays = λ past y. rw passed-++ (b.stays (mark Else q ∷ past) (else_inner l q past y));
        goes = λ k past y.
            ap (refusal (else_part ∷ k) past) e ∙ b.goes k (mark Else q ∷ past) (else_inner l q past y) ∙
            ap (λ (z : List Word). refusal k z t₂) (sym (passed-++ ws (mark CloseBrace x ∷ []) (mark OpenBrace o ∷ mark Else q ∷ past)));
      }

  pub refuses_else : (l : ℕ) (q : Place) (t t₁ : Text) (r : Refusal) → t ≡ reads (mark Else q) t₁ → Refuses (block ∷ []) (Inner vs ts l) t₁ r → Refuses (else_part ∷ []) (Starts vs ts l) t r
  refuses_else l q t t₁ r e i k past y = ap (refusal (else_part ∷ k) past) e ∙ i k (mark Else q ∷ past) (else_inner l q past y)

  -- if
  pub body_choosing : (t : Text) (k : List Expect) (past : List Word) → first_is If t ≡ true → refusal (body ∷ k) past t ≡ refusal (choosing ++ (body ∷ k)) past t
  body_choosing t k past e = let h = first_mark If t e in ap (refusal (body ∷ k) past) h.2 ∙ ap (refusal (choosing ++ (body ∷ k)) past) (sym h.2)

  module _ {l : ℕ} {p : Place} {t t₁ : Text} (e : t ≡ reads (mark If p) t₁) where
    asking : (past : List Word) → Starts vs ts l past → KnowsAsks vs ts (mark If p ∷ past)
    asking past y = record { asks = behind_if; known = record { vars = y.known.vars; tabs = y.known.tabs } }

    pub refuses_if : (r : Refusal) → Refuses (condition ∷ []) (KnowsAsks vs ts) t₁ r → Refuses choosing (Starts vs ts l) t r
    refuses_if r i k past y = ap (refusal (choosing ++ k) past) e ∙ i (block ∷ else_part ∷ k) _ (asking past y)

    module _ {c : Condition} {t₂ : Text} (o : Over (condition ∷ []) (KnowsAsks vs ts) (is_condition c) t₁ t₂) where
      asked : (k : List Expect) (past : List Word) → Starts vs ts l past → refusal (choosing ++ k) past t ≡ refusal (block ∷ else_part ∷ k) (passed o.words (mark If p ∷ past)) t₂
      asked k past y = ap (refusal (choosing ++ k) past) e ∙ o.goes (block ∷ else_part ∷ k) _ (asking past y)

      inner : (past : List Word) → Starts vs ts l past → Inner vs ts l (passed o.words (mark If p ∷ past))
      inner past y =
          let a = o.alike _ (asking past y) in
          record { known = record { vars = a.vars ∙ y.known.vars; tabs = a.tabs ∙ y.known.tabs }; deep = ap (λ (z : ℕ). z + l) a.lev ∙ y.deep }

      pub refuses_first : (r : Refusal) → Refuses (block ∷ []) (Inner vs ts l) t₂ r → Refuses choosing (Starts vs ts l) t r
      refuses_first r i k past y = asked k past y ∙ i (else_part ∷ k) _ (inner past y)

      module _ {t₃ : Text} {d₁ d₂ : Drawing} (b : Blocked vs ts l t₂ t₃ d₁ d₂) where
        pub refuses_second : (r : Refusal) → Refuses (else_part ∷ []) (Starts vs ts l) t₃ r → Refuses choosing (Starts vs ts l) t r
        refuses_second r i k past y = asked k past y ∙ b.goes (else_part ∷ k) _ (inner past y) ∙ i k _ (b.stays _ (inner past y))

        pub stated_choice : (t₄ : Text) (d d₃ d₄ d₅ : Drawing) → Elsed vs ts l t₃ t₄ d₃ d₄ → d₁ ≡ fresh (holds (var_number vs ts) c) p d →
            d₃ ≡ fresh (negation (var_number vs ts) c) p (stand d.now d₂) → d₅ ≡ joined_at p d₂.now d₄ → Statement vs ts l t t₄ d d₅
        stated_choice t₄ d d₃ d₄ d₅ s f g h =
            let cw = o.words in
            let bw = b.inside in
            let ew = s.words in
            let tail = mark CloseBrace b.closed ∷ ew in
            let block_words = mark OpenBrace b.opened ∷ (bw ++ tail) in
            one_or_more (mark If p) (cw ++ block_words) (record {
              words = mark If p ∷ (cw ++ block_words);
              joined = e ∙ ap (reads (mark If p))
                  (o.joined ∙ ap (before cw) (b.joined ∙ ap (reads (mark OpenBrace b.opened)) (ap (λ (z : Text). before bw (reads (mark CloseBrace b.closed) z)) s.joined ∙ sym (before-++ bw tail t₄))) ∙
                  sym (before-++ cw block_words t₄));
              more = λ rest. choose p c b.tree s.tree rest;
              derived = λ r₀ r rest body₀.
                  subst (λ (z : List Word). Body (mark If p ∷ z) r (choose p c b.tree s.tree rest)) (sym (joins cw bw ew r₀))
                  (s.derived p b.opened b.closed _ _ r₀ r c b.tree rest (o.derived (mark OpenBrace b.opened ∷ (bw ++ (mark CloseBrace b.closed ∷ (ew ++ r₀))))) (b.derived (ew ++ r₀)) body₀);
              draws = λ rest. ap (draw vs ts rest) (drawn ∙ sym h);
              stays = λ past y. subst (Starts vs ts l) (sym (pasts cw bw ew past)) (s.stays _ (b.stays _ (inner past y)));
              goes = λ k past y.
                  body_choosing t k past (ap (first_is If) e) ∙ asked (body ∷ k) past y ∙ b.goes (else_part ∷ body ∷ k) _ (inner past y) ∙ s.goes (body ∷ k) _ (b.stays _ (inner past y)) ∙
                  ap (λ (z : List Word). refusal (body ∷ k) z t₄) (sym (pasts cw bw ew past));
            }) refl
          where
            joins : (cw bw ew r₀ : List Word) →
                (cw ++ (mark OpenBrace b.opened ∷ (bw ++ (mark CloseBrace b.closed ∷ ew)))) ++ r₀ ≡ cw ++ (mark OpenBrace b.opened ∷ (bw ++ (mark CloseBrace b.closed ∷ (ew ++ r₀))))
            joins cw bw ew r₀ = simp append_assoc

            pasts : (cw bw ew past : List Word) →
                passed (mark If p ∷ (cw ++ (mark OpenBrace b.opened ∷ (bw ++ (mark CloseBrace b.closed ∷ ew))))) past ≡
                passed ew (mark CloseBrace b.closed ∷ passed bw (mark OpenBrace b.opened ∷ passed cw (mark If p ∷ past)))
            pasts cw bw ew past =
                passed-++ cw (mark OpenBrace b.opened ∷ (bw ++ (mark CloseBrace b.closed ∷ ew))) (mark If p ∷ past) ∙
                passed-++ bw (mark CloseBrace b.closed ∷ ew) (mark OpenBrace b.opened ∷ passed cw (mark If p ∷ past))

            drawn : let x : Drawing = draw vs ts b.tree (fresh (holds (var_number vs ts) c) p d) in
                joined_at p x.now (draw vs ts s.tree (fresh (negation (var_number vs ts) c) p (stand d.now x))) ≡ joined_at p d₂.now d₄
            drawn =
                let then : Drawing → Drawing = λ x. joined_at p x.now (draw vs ts s.tree (fresh (negation (var_number vs ts) c) p (stand d.now x))) in
                ap then (ap (draw vs ts b.tree) (sym f) ∙ b.draws) ∙ ap (λ (x : Drawing). joined_at p d₂.now (draw vs ts s.tree x)) (sym g) ∙ ap (joined_at p d₂.now) s.draws

  -- while
  pub body_repeating : (t : Text) (k : List Expect) (past : List Word) → first_is While t ≡ true → refusal (body ∷ k) past t ≡ refusal (repeating ++ (body ∷ k)) past t
  body_repeating t k past e = let h = first_mark While t e in ap (refusal (body ∷ k) past) h.2 ∙ ap (refusal (repeating ++ (body ∷ k)) past) (sym h.2)

  module _ {l : ℕ} {p : Place} {t t₁ : Text} (e : t ≡ reads (mark While p) t₁) where
    wondering : (past : List Word) → Starts vs ts l past → KnowsAsks vs ts (mark While p ∷ past)
    wondering past y = record { asks = behind_while; known = record { vars = y.known.vars; tabs = y.known.tabs } }

    pub refuses_while : (r : Refusal) → Refuses (condition ∷ []) (KnowsAsks vs ts) t₁ r → Refuses repeating (Starts vs ts l) t r
    refuses_while r i k past y = ap (refusal (repeating ++ k) past) e ∙ i (block ∷ k) _ (wondering past y)

    module _ {c : Condition} {t₂ : Text} (o : Over (condition ∷ []) (KnowsAsks vs ts) (is_condition c) t₁ t₂) where
      looping : (k : List Expect) (past : List Word) → Starts vs ts l past → refusal (repeating ++ k) past t ≡ refusal (block ∷ k) (passed o.words (mark While p ∷ past)) t₂
      looping k past y = ap (refusal (repeating ++ k) past) e ∙ o.goes (block ∷ k) _ (wondering past y)

      looped : (past : List Word) → Starts vs ts l past → Inner vs ts l (passed o.words (mark While p ∷ past))
      looped past y =
          let a = o.alike _ (wondering past y) in
          record { known = record { vars = a.vars ∙ y.known.vars; tabs = a.tabs ∙ y.known.tabs }; deep = ap (λ (z : ℕ). z + l) a.lev ∙ y.deep }

      pub refuses_loop : (r : Refusal) → Refuses (block ∷ []) (Inner vs ts l) t₂ r → Refuses repeating (Starts vs ts l) t r
      refuses_loop r i k past y = looping k past y ∙ i k _ (looped past y)

      pub stated_loop : (t₃ : Text) (d d₁ d₂ d₃ d₄ : Drawing) → Blocked vs ts l t₂ t₃ d₂ d₃ → d₁ ≡ fresh Skip p d → d₂ ≡ fresh (holds (var_number vs ts) c) p d₁ →
          d₄ ≡ fresh (negation (var_number vs ts) c) p (stand d₁.now (back Skip p d₁.now d₃)) → Statement vs ts l t t₃ d d₄
      stated_loop t₃ d d₁ d₂ d₃ d₄ b f g h =
          let cw = o.words in
          let bw = b.inside in
          let tail = mark CloseBrace b.closed ∷ [] in
          let block_words = mark OpenBrace b.opened ∷ (bw ++ tail) in
          one_or_more (mark While p) (cw ++ block_words) (record {
            words = mark While p ∷ (cw ++ block_words);
            joined = e ∙ ap (reads (mark While p)) (o.joined ∙ ap (before cw) (b.joined ∙ ap (reads (mark OpenBrace b.opened)) (sym (before-++ bw tail t₃))) ∙ sym (before-++ cw block_words t₃));
            more = λ rest. repeat p c b.tree rest;
            derived = λ r₀ r rest body₀.
                subst (λ (z : List Word). Body (mark While p ∷ z) r (repeat p c b.tree rest)) (sym (joins cw bw r₀))
                (while_stmt (o.derived (mark OpenBrace b.opened ∷ (bw ++ (mark CloseBrace b.closed ∷ r₀)))) (b.derived r₀) body₀);
            draws = λ rest. ap (draw vs ts rest) (drawn ∙ sym h);
            stays = λ past y. subst (Starts vs ts l) (sym (pasts cw bw past)) (b.stays _ (looped past y));
            goes = λ k past y.
                body_repeating t k past (ap (first_is While) e) ∙ looping (body ∷ k) past y ∙ b.goes (body ∷ k) _ (looped past y) ∙ ap (λ (z : List Word). refusal (body ∷ k) z t₃) (sym (pasts cw bw past));
          }) refl
        where
          joins : (cw bw r₀ : List Word) → (cw ++ (mark OpenBrace b.opened ∷ (bw ++ (mark CloseBrace b.closed ∷ [])))) ++ r₀ ≡ cw ++ (mark OpenBrace b.opened ∷ (bw ++ (mark CloseBrace b.closed ∷ r₀)))
          joins cw bw r₀ = simp append_assoc

          pasts : (cw bw past : List Word) →
              passed (mark While p ∷ (cw ++ (mark OpenBrace b.opened ∷ (bw ++ (mark CloseBrace b.closed ∷ []))))) past ≡
              mark CloseBrace b.closed ∷ passed bw (mark OpenBrace b.opened ∷ passed cw (mark While p ∷ past))
          pasts cw bw past =
              passed-++ cw (mark OpenBrace b.opened ∷ (bw ++ (mark CloseBrace b.closed ∷ []))) (mark While p ∷ past) ∙
              passed-++ bw (mark CloseBrace b.closed ∷ []) (mark OpenBrace b.opened ∷ passed cw (mark While p ∷ past))

          drawn : let x : Drawing = fresh Skip p d in
              let y : Drawing = draw vs ts b.tree (fresh (holds (var_number vs ts) c) p x) in
              fresh (negation (var_number vs ts) c) p (stand x.now (back Skip p x.now y)) ≡ fresh (negation (var_number vs ts) c) p (stand d₁.now (back Skip p d₁.now d₃))
          drawn =
              let then : Drawing → Drawing → Drawing = λ x y. fresh (negation (var_number vs ts) c) p (stand x.now (back Skip p x.now y)) in
              ap (λ (x : Drawing). then x (draw vs ts b.tree (fresh (holds (var_number vs ts) c) p x))) (sym f) ∙ ap (λ (x : Drawing). then d₁ (draw vs ts b.tree x)) (sym g) ∙ ap (then d₁) b.draws
