-- what each call does, from what its code has computed
use Rattle.std.proofs.Common.{ℕ, ◌<◌, ◌≤◌, List, length, get_or, None, Option, refl, inl, inr}
use Rattle.kinds.specs.Limits.{most_rounds}
use Rattle.kinds.specs.Kinds.{Ops}
use Rattle.books.specs.Books.{at}
use Rattle.books.specs.declared.Alternative.{Alternative}
use Rattle.strategy_theory.specs.Lives.{State, Answer, Keeps, Does}
use Rattle.strategy_theory.specs.Lives.Call.{run, value_of, choice_of, rounds_shown, question}
use Rattle.strategy_theory.specs.Lives.Answer.{value, choice, number, told, refused}

module _ {V W Q A : Type 0} (o : Ops V W) (m : List (List (Alternative V W))) (ask : State V → Q → A) (s : State V) where
  pub kept_as : (b : Answer V A) (ss : List (List (Option ℕ))) → Keeps b ss s b ss s
  kept_as b ss = record { answer = refl; past = refl; state = refl }

  pub does_refuse : (b : ℕ) → most_rounds < b → (ss : List (List (Option ℕ))) → Does o m ask (run b) ss s (refused 32) ss s
  does_refuse b h ss = inr (h, kept_as (refused 32) ss)

  pub does_value : (u : ℕ) → u < length m → (ss : List (List (Option ℕ))) → Does o m ask (value_of u) ss s (value (at o s.values u)) ss s
  does_value u h ss = inl (h, kept_as (value (at o s.values u)) ss)

  pub does_no_value : (u : ℕ) → length m ≤ u → (ss : List (List (Option ℕ))) → Does o m ask (value_of u) ss s (refused 30) ss s
  does_no_value u h ss = inr (h, kept_as (refused 30) ss)

  pub does_choice : (u : ℕ) → u < length m → (ss : List (List (Option ℕ))) → Does o m ask (choice_of u) ss s (choice (get_or s.strategy u None)) ss s
  does_choice u h ss = inl (h, kept_as (choice (get_or s.strategy u None)) ss)

  pub does_no_choice : (u : ℕ) → length m ≤ u → (ss : List (List (Option ℕ))) → Does o m ask (choice_of u) ss s (refused 30) ss s
  does_no_choice u h ss = inr (h, kept_as (refused 30) ss)

  pub does_rounds : (ss : List (List (Option ℕ))) → Does o m ask rounds_shown ss s (number s.shown) ss s
  does_rounds ss = kept_as (number s.shown) ss

  pub does_question : (q : Q) (ss : List (List (Option ℕ))) → Does o m ask (question q) ss s (told (ask s q)) ss s
  does_question q ss = kept_as (told (ask s q)) ss
