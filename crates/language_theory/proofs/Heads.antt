-- Declarations, passed or refused.
use Rattle.std.proofs.Common.{◌≡◌, ℕ, ◌+◌, ◌<◌, Bool, true, false, cond, ◌||◌, eqb, ltb, leb, List, [], ◌∷◌, ◌++◌, length, Some, sym, refl, ap, ◌∙◌, subst, append_assoc, append-nil, arith, length-append}
use Rattle.base.specs.declared.Place.{Place}
use Rattle.base.specs.declared.Refusal.{Refusal}
use Rattle.lexer.specs.Words.{Word, Text, among}
use Rattle.lexer.specs.Words.Word.{name, number, mark}
use Rattle.lexer.specs.Words.Text.{reads}
use Rattle.lexer.specs.declared.Mark.TheVariants.{Equals, OpenBracket, CloseBracket, Semicolon, Var, Table}
use Rattle.language_theory.specs.declared.Range.{Range}
use Rattle.language_theory.specs.Grammar.{Declaration, Heads}
use Rattle.language_theory.specs.Grammar.Declaration.{variable, table}
use Rattle.language_theory.specs.Grammar.Heads.{var_decl, table_decl}
use Rattle.language_theory.specs.Graphs.{Variable, Table as ATable, variables, tables, var_names, table_names}
use Rattle.language_theory.specs.Rules.{words}
use Rattle.language_theory.specs.Names.{rule, names_behind, next_is_bracket}
use Rattle.language_theory.specs.Expected.{Expect, one, step, refusal, refuse}
use Rattle.language_theory.specs.Expected.Expect.{just, heads, span}
use Rattle.language_theory.specs.Expected.Terminal.{any_name, any_number}
use Rattle.language_theory.specs.Readings.{before, passed, first_is, Refuses, Over, Quiet, is_span, New, Starts, Declares, Declared, varying, tabling}
use Rattle.language_theory.specs.Readings.New.{new_variable, new_table}
use Rattle.language_theory.specs.Readings.Boundary.{at_start, behind_semicolon}
use Rattle.language_theory.proofs.Passing.{pass_word, broken_word, decided_word}
use Rattle.language_theory.proofs.Steps.{before-++, passed-++, words_before, first_mark}
use Rattle.language_theory.proofs.Names.{length_vars, length_tables}

-- none, and one more
pub declared_none : (t : Text) → Declared [] [] t t
declared_none t =
    record {
      words = [];
      joined = refl;
      declarations = [];
      derived = λ r₀ r rest h. h;
      vars = refl;
      tabs = refl;
      starts = record { boundary = at_start; known = record { vars = refl; tabs = refl }; deep = refl };
      goes = λ k. refl;
    }

variables-++ : (xs ys : List Declaration) → variables (xs ++ ys) ≡ variables xs ++ variables ys
variables-++ [] ys = refl
variables-++ (variable n g ∷ xs) ys = ap (λ (z : List Variable). record { name = n; range = g } ∷ z) (variables-++ xs ys)
variables-++ (table n c g ∷ xs) ys = variables-++ xs ys

tables-++ : (xs ys : List Declaration) → tables (xs ++ ys) ≡ tables xs ++ tables ys
tables-++ [] ys = refl
tables-++ (variable n g ∷ xs) ys = tables-++ xs ys
tables-++ (table n c g ∷ xs) ys = ap (λ (z : List ATable). record { name = n; size = c; range = g } ∷ z) (tables-++ xs ys)

pub declared_more : {vs vs₂ : List Variable} {ts ts₂ : List ATable} {t t₁ t₂ : Text} → Declared vs ts t t₁ → Declares vs vs₂ ts ts₂ t₁ t₂ → Declared vs₂ ts₂ t t₂
declared_more {t₂ = t₂} x y =
    let xs = x.words in
    let ys = y.words in
    let ds = x.declarations in
    let one_more = y.declaration ∷ [] in
    record {
      words = xs ++ ys;
      joined = x.joined ∙ ap (before xs) y.joined ∙ sym (before-++ xs ys t₂);
      declarations = ds ++ one_more;
      derived = λ r₀ r rest h.
          subst (λ (z : List Declaration). Heads ((xs ++ ys) ++ r₀) r z) (sym (append_assoc ds one_more rest))
          (rw append_assoc (x.derived (ys ++ r₀) r (y.declaration ∷ rest) (y.derived r₀ r rest h)));
      vars = y.vars ∙ ap (λ (z : List Variable). z ++ variables one_more) x.vars ∙ sym (variables-++ ds one_more);
      tabs = y.tabs ∙ ap (λ (z : List ATable). z ++ tables one_more) x.tabs ∙ sym (tables-++ ds one_more);
      starts = rw passed-++ (y.stays (passed xs []) x.starts);
      goes = λ k. x.goes k ∙ y.goes k (passed xs []) x.starts ∙ ap (λ (p : List Word). refusal (heads ∷ k) p t₂) (sym (passed-++ xs ys []));
    }

-- what is left is shorter behind a declaration
pub shorter : {vs vs₂ : List Variable} {ts ts₂ : List ATable} {t t₂ : Text} → Declares vs vs₂ ts ts₂ t t₂ → length (words t₂) < length (words t)
shorter {t₂ = t₂} y =
    let e = ap length (ap words y.joined ∙ words_before y.words t₂) in
    let a = length-append y.words (words t₂) in
    let h = y.some in
    omega arith

var_names_snoc : (vs : List Variable) (v : Variable) → var_names (vs ++ (v ∷ [])) ≡ var_names vs ++ (v.name ∷ [])
var_names_snoc [] v = refl
var_names_snoc (u ∷ vs) v = ap (λ (z : List (List ℕ)). u.name ∷ z) (var_names_snoc vs v)

table_names_snoc : (ts : List ATable) (t : ATable) → table_names (ts ++ (t ∷ [])) ≡ table_names ts ++ (t.name ∷ [])
table_names_snoc [] t = refl
table_names_snoc (u ∷ ts) t = ap (λ (z : List (List ℕ)). u.name ∷ z) (table_names_snoc ts t)

abbrev at_new : Bool → Bool → ℕ
at_new known many = cond known 7 (cond many 12 0)

or_false : (b : Bool) → (b || false) ≡ b
or_false true = refl
or_false false = refl

new_word : (k k₂ : List Expect) (past : List Word) (n : List ℕ) (p : Place) (t : Text) (known many : Bool) → step k (name n p) ≡ Some k₂ →
    rule past (name n p) (next_is_bracket t) ≡ at_new known many →
    refusal k past (reads (name n p) t) ≡ cond known (refuse 7 p) (cond many (refuse 12 p) (refusal k₂ (name n p ∷ past) t))
new_word k k₂ past n p t true many s e = broken_word k past (name n p) t k₂ 6 s e
new_word k k₂ past n p t false true s e = broken_word k past (name n p) t k₂ 11 s e
new_word k k₂ past n p t false false s e = pass_word k past (name n p) t k₂ s e

quiet_equals : (past : List Word) (q : Place) → Quiet (mark Equals q ∷ past)
quiet_equals past q = record { minus = refl; dots = refl; bracket = refl }

module _ (vs : List Variable) (ts : List ATable) where
  -- the rules at a new name
  new_rule : (full : Bool) {past : List Word} → New vs ts full past → (n : List ℕ) (p : Place) (b : Bool) →
      rule past (name n p) b ≡ at_new (among n (var_names vs) || among n (table_names ts)) full
  new_rule full (new_variable {past = past} y i) n p b =
      ap (λ (b : Bool). at_new (among n (names_behind Var past) || among n (names_behind Table past)) b) (or_false (leb 8 (length (names_behind Var past)))) ∙
      ap (λ (a : List (List ℕ)). at_new (among n a || among n (names_behind Table past)) (leb 8 (length a))) y.vars ∙
      ap (λ (a : List (List ℕ)). at_new (among n (var_names vs) || among n a) (leb 8 (length (var_names vs)))) y.tabs ∙
      ap (at_new (among n (var_names vs) || among n (table_names ts))) (ap (leb 8) (length_vars vs) ∙ i)
  new_rule full (new_table {past = past} y i) n p b =
      ap (λ (a : List (List ℕ)). at_new (among n a || among n (names_behind Table past)) (leb 8 (length (names_behind Table past)))) y.vars ∙
      ap (λ (a : List (List ℕ)). at_new (among n (var_names vs) || among n a) (leb 8 (length a))) y.tabs ∙
      ap (at_new (among n (var_names vs) || among n (table_names ts))) (ap (leb 8) (length_tables ts) ∙ i)

  pub new_decides : (known full : Bool) (n : List ℕ) (p : Place) (t t₁ : Text) → t ≡ reads (name n p) t₁ → (among n (var_names vs) || among n (table_names ts)) ≡ known →
      (k : List Expect) (past : List Word) → New vs ts full past →
      refusal (just any_name ∷ k) past t ≡ cond known (refuse 7 p) (cond full (refuse 12 p) (refusal k (name n p ∷ past) t₁))
  new_decides known full n p t t₁ e h k past y =
      ap (refusal (just any_name ∷ k) past) e ∙
      new_word (just any_name ∷ k) k past n p t₁ known full refl (new_rule full y n p (next_is_bracket t₁) ∙ ap (λ (b : Bool). at_new b full) h)

  -- var name = range ;
  pub heads_varying : (t : Text) (k : List Expect) (past : List Word) → first_is Var t ≡ true → refusal (heads ∷ k) past t ≡ refusal (varying ++ (heads ∷ k)) past t
  heads_varying t k past e = let h = first_mark Var t e in ap (refusal (heads ∷ k) past) h.2 ∙ ap (refusal (varying ++ (heads ∷ k)) past) (sym h.2)

  module _ {v : Place} {t t₁ : Text} (e : t ≡ reads (mark Var v) t₁) where
    pub refuses_variable_name : (full : Bool) → leb 8 (length vs) ≡ full → (r : Refusal) → Refuses (just any_name ∷ []) (New vs ts full) t₁ r → Refuses varying (Starts vs ts 8) t r
    refuses_variable_name full l r i k past y = ap (refusal (varying ++ k) past) e ∙ i (one Equals ∷ span ∷ one Semicolon ∷ k) _ (new_variable y.known l)

    module _ {n : List ℕ} {p : Place} {t₂ : Text} (f : t₁ ≡ reads (name n p) t₂) where
      module _ (h : (among n (var_names vs) || among n (table_names ts)) ≡ false) (i : leb 8 (length vs) ≡ false) where
        named : (k : List Expect) (past : List Word) → Starts vs ts 8 past → refusal (varying ++ k) past t ≡ refusal (one Equals ∷ span ∷ one Semicolon ∷ k) (name n p ∷ mark Var v ∷ past) t₂
        named k past y = ap (refusal (varying ++ k) past) e ∙ new_decides false false n p t₁ t₂ f h (one Equals ∷ span ∷ one Semicolon ∷ k) (mark Var v ∷ past) (new_variable y.known i)

        module _ {q : Place} {t₃ : Text} (g : t₂ ≡ reads (mark Equals q) t₃) where
          at_range : (k : List Expect) (past : List Word) → Starts vs ts 8 past → refusal (varying ++ k) past t ≡ refusal (span ∷ one Semicolon ∷ k) (mark Equals q ∷ name n p ∷ mark Var v ∷ past) t₃
          at_range k past y = named k past y ∙ ap (refusal (one Equals ∷ span ∷ one Semicolon ∷ k) (name n p ∷ mark Var v ∷ past)) g

          module _ {g₂ : Range} {t₄ : Text} (o : Over (span ∷ []) Quiet (is_span g₂) t₃ t₄) where
            behind_range : (k : List Expect) (past : List Word) → Starts vs ts 8 past → refusal (varying ++ k) past t ≡ refusal (one Semicolon ∷ k) (passed o.words (mark Equals q ∷ name n p ∷ mark Var v ∷ past)) t₄
            behind_range k past y = at_range k past y ∙ o.goes (one Semicolon ∷ k) _ (quiet_equals _ q)

            pub declares_variable : (s : Place) (t₅ : Text) → t₄ ≡ reads (mark Semicolon s) t₅ → (vs₂ : List Variable) → vs₂ ≡ vs ++ (record { name = n; range = g₂ } ∷ []) → (ts₂ : List ATable) → ts₂ ≡ ts →
                Declares vs vs₂ ts ts₂ t t₅
            declares_variable s t₅ j vs₂ a ts₂ b =
                let ws = o.words in
                record {
                  words = mark Var v ∷ name n p ∷ mark Equals q ∷ (ws ++ (mark Semicolon s ∷ []));
                  joined = e ∙ ap (reads (mark Var v)) (f ∙ ap (reads (name n p)) (g ∙ ap (reads (mark Equals q)) (o.joined ∙ ap (before ws) j ∙ sym (before-++ ws (mark Semicolon s ∷ []) t₅))));
                  declaration = variable n g₂;
                  derived = λ r₀ r rest d. rw append_assoc (var_decl (o.derived (mark Semicolon s ∷ r₀)) d);
                  some = omega arith;
                  vars = a;
                  tabs = b ∙ sym (append-nil ts);
                  stays = λ past y. rw passed-++ (over past y);
                  goes = λ k past y.
                      heads_varying t k past (ap (first_is Var) e) ∙ behind_range (heads ∷ k) past y ∙ ap (refusal (one Semicolon ∷ heads ∷ k) (passed ws (mark Equals q ∷ name n p ∷ mark Var v ∷ past))) j ∙
                      ap (λ (z : List Word). refusal (heads ∷ k) z t₅) (sym (passed-++ ws (mark Semicolon s ∷ []) (mark Equals q ∷ name n p ∷ mark Var v ∷ past)));
                }
              where
                over : (past : List Word) → Starts vs ts 8 past → Starts vs₂ ts₂ 8 (mark Semicolon s ∷ passed o.words (mark Equals q ∷ name n p ∷ mark Var v ∷ past))
                over past y =
                    let w = o.alike (mark Equals q ∷ name n p ∷ mark Var v ∷ past) (quiet_equals _ q) in
                    record {
                      boundary = behind_semicolon;
                      known = record {
                        vars = w.vars ∙ ap (λ (z : List (List ℕ)). z ++ (n ∷ [])) y.known.vars ∙ sym (ap var_names a ∙ var_names_snoc vs (record { name = n; range = g₂ }));
                        tabs = w.tabs ∙ append-nil (names_behind Table past) ∙ y.known.tabs ∙ ap table_names (sym b);
                      };
                      deep = ap (λ (z : ℕ). z + 8) w.lev ∙ y.deep;
                    }

  -- table name [ size ] = range ;
  pub heads_tabling : (t : Text) (k : List Expect) (past : List Word) → first_is Table t ≡ true → refusal (heads ∷ k) past t ≡ refusal (tabling ++ (heads ∷ k)) past t
  heads_tabling t k past e = let h = first_mark Table t e in ap (refusal (heads ∷ k) past) h.2 ∙ ap (refusal (tabling ++ (heads ∷ k)) past) (sym h.2)

  module _ {v : Place} {t t₁ : Text} (e : t ≡ reads (mark Table v) t₁) where
    pub refuses_table_name : (full : Bool) → leb 8 (length ts) ≡ full → (r : Refusal) → Refuses (just any_name ∷ []) (New vs ts full) t₁ r → Refuses tabling (Starts vs ts 8) t r
    refuses_table_name full l r i k past y =
        ap (refusal (tabling ++ k) past) e ∙ i (one OpenBracket ∷ just any_number ∷ one CloseBracket ∷ one Equals ∷ span ∷ one Semicolon ∷ k) _ (new_table y.known l)

    module _ {n : List ℕ} {p : Place} {t₂ : Text} (f : t₁ ≡ reads (name n p) t₂) where
      module _ (h : (among n (var_names vs) || among n (table_names ts)) ≡ false) (i : leb 8 (length ts) ≡ false) where
        table_named : (k : List Expect) (past : List Word) → Starts vs ts 8 past →
            refusal (tabling ++ k) past t ≡ refusal (one OpenBracket ∷ just any_number ∷ one CloseBracket ∷ one Equals ∷ span ∷ one Semicolon ∷ k) (name n p ∷ mark Table v ∷ past) t₂
        table_named k past y =
            ap (refusal (tabling ++ k) past) e ∙
            new_decides false false n p t₁ t₂ f h (one OpenBracket ∷ just any_number ∷ one CloseBracket ∷ one Equals ∷ span ∷ one Semicolon ∷ k) (mark Table v ∷ past) (new_table y.known i)

        module _ {q : Place} {t₃ : Text} (g : t₂ ≡ reads (mark OpenBracket q) t₃) where
          at_size : (k : List Expect) (past : List Word) → Starts vs ts 8 past →
              refusal (tabling ++ k) past t ≡ refusal (just any_number ∷ one CloseBracket ∷ one Equals ∷ span ∷ one Semicolon ∷ k) (mark OpenBracket q ∷ name n p ∷ mark Table v ∷ past) t₃
          at_size k past y = table_named k past y ∙ ap (refusal (one OpenBracket ∷ just any_number ∷ one CloseBracket ∷ one Equals ∷ span ∷ one Semicolon ∷ k) (name n p ∷ mark Table v ∷ past)) g

          module _ {c : ℕ} {u : Place} {t₄ : Text} (m : t₃ ≡ reads (number c u) t₄) where
            pub size_decides : (wrong : Bool) → (eqb c 0 || ltb 65536 c) ≡ wrong → (k : List Expect) (past : List Word) → Starts vs ts 8 past →
                refusal (tabling ++ k) past t ≡ cond wrong (refuse 10 u) (refusal (one CloseBracket ∷ one Equals ∷ span ∷ one Semicolon ∷ k) (number c u ∷ mark OpenBracket q ∷ name n p ∷ mark Table v ∷ past) t₄)
            size_decides wrong w k past y =
                at_size k past y ∙ ap (refusal (just any_number ∷ one CloseBracket ∷ one Equals ∷ span ∷ one Semicolon ∷ k) (mark OpenBracket q ∷ name n p ∷ mark Table v ∷ past)) m ∙
                decided_word (just any_number ∷ one CloseBracket ∷ one Equals ∷ span ∷ one Semicolon ∷ k) (mark OpenBracket q ∷ name n p ∷ mark Table v ∷ past) (number c u) t₄ (one CloseBracket ∷ one Equals ∷ span ∷ one Semicolon ∷ k) 9 wrong refl
                (ap (λ (b : Bool). cond b 10 0) w)

            module _ (w : (eqb c 0 || ltb 65536 c) ≡ false) where
              module _ {x : Place} {t₅ : Text} (d : t₄ ≡ reads (mark CloseBracket x) t₅) where
                closed : (k : List Expect) (past : List Word) → Starts vs ts 8 past →
                    refusal (tabling ++ k) past t ≡ refusal (one Equals ∷ span ∷ one Semicolon ∷ k) (mark CloseBracket x ∷ number c u ∷ mark OpenBracket q ∷ name n p ∷ mark Table v ∷ past) t₅
                closed k past y = size_decides false w k past y ∙ ap (refusal (one CloseBracket ∷ one Equals ∷ span ∷ one Semicolon ∷ k) (number c u ∷ mark OpenBracket q ∷ name n p ∷ mark Table v ∷ past)) d

                module _ {z : Place} {t₆ : Text} (l : t₅ ≡ reads (mark Equals z) t₆) where
                  abbrev so_far : List Word → List Word
                  so_far past = mark Equals z ∷ mark CloseBracket x ∷ number c u ∷ mark OpenBracket q ∷ name n p ∷ mark Table v ∷ past

                  at_table_range : (k : List Expect) (past : List Word) → Starts vs ts 8 past → refusal (tabling ++ k) past t ≡ refusal (span ∷ one Semicolon ∷ k) (so_far past) t₆
                  at_table_range k past y = closed k past y ∙ ap (refusal (one Equals ∷ span ∷ one Semicolon ∷ k) (mark CloseBracket x ∷ number c u ∷ mark OpenBracket q ∷ name n p ∷ mark Table v ∷ past)) l

                  module _ {g₂ : Range} {t₇ : Text} (o : Over (span ∷ []) Quiet (is_span g₂) t₆ t₇) where
                    behind_table_range : (k : List Expect) (past : List Word) → Starts vs ts 8 past → refusal (tabling ++ k) past t ≡ refusal (one Semicolon ∷ k) (passed o.words (so_far past)) t₇
                    behind_table_range k past y = at_table_range k past y ∙ o.goes (one Semicolon ∷ k) _ (quiet_equals _ z)

                    pub declares_table : (s : Place) (t₈ : Text) → t₇ ≡ reads (mark Semicolon s) t₈ → (ts₂ : List ATable) → ts₂ ≡ ts ++ (record { name = n; size = c; range = g₂ } ∷ []) → (vs₂ : List Variable) → vs₂ ≡ vs →
                        Declares vs vs₂ ts ts₂ t t₈
                    declares_table s t₈ j ts₂ a vs₂ b =
                        let ws = o.words in
                        record {
                          words = mark Table v ∷ name n p ∷ mark OpenBracket q ∷ number c u ∷ mark CloseBracket x ∷ mark Equals z ∷ (ws ++ (mark Semicolon s ∷ []));
                          joined = e ∙ ap (reads (mark Table v)) (f ∙ ap (reads (name n p)) (g ∙ ap (reads (mark OpenBracket q)) (m ∙ ap (reads (number c u)) (d ∙ ap (reads (mark CloseBracket x))
                              (l ∙ ap (reads (mark Equals z)) (o.joined ∙ ap (before ws) j ∙ sym (before-++ ws (mark Semicolon s ∷ []) t₈)))))));
                          declaration = table n c g₂;
                          derived = λ r₀ r rest h₂. rw append_assoc (table_decl (o.derived (mark Semicolon s ∷ r₀)) h₂);
                          some = omega arith;
                          vars = b ∙ sym (append-nil vs);
                          tabs = a;
                          stays = λ past y. rw passed-++ (over past y);
                          goes = λ k past y.
                              heads_tabling t k past (ap (first_is Table) e) ∙ behind_table_range (heads ∷ k) past y ∙ ap (refusal (one Semicolon ∷ heads ∷ k) (passed ws (so_far past))) j ∙
                              ap (λ (z₂ : List Word). refusal (heads ∷ k) z₂ t₈) (sym (passed-++ ws (mark Semicolon s ∷ []) (so_far past)));
                        }
                      where
                        over : (past : List Word) → Starts vs ts 8 past → Starts vs₂ ts₂ 8 (mark Semicolon s ∷ passed o.words (so_far past))
                        over past y =
                            let w₂ = o.alike (so_far past) (quiet_equals _ z) in
                            record {
                              boundary = behind_semicolon;
                              known = record {
                                vars = w₂.vars ∙ append-nil (names_behind Var past) ∙ y.known.vars ∙ ap var_names (sym b);
                                tabs = w₂.tabs ∙ ap (λ (z₂ : List (List ℕ)). z₂ ++ (n ∷ [])) y.known.tabs ∙ sym (ap table_names a ∙ table_names_snoc ts (record { name = n; size = c; range = g₂ }));
                              };
                              deep = ap (λ (z₂ : ℕ). z₂ + 8) w₂.lev ∙ y.deep;
                            }
