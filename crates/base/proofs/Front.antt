-- entries that are filled in at the front of a list, one after another
use Rattle.std.proofs.Common.{◌≡◌, ℕ, ◌+◌, ◌-◌, ◌<◌, ◌↔◌, List, [], ◌∷◌, ◌++◌, length, get_or, drop, set, sym, ap, ◌∙◌, arith, length-append, length-drop, append_assoc}
use Rattle.base.specs.Fronts.{Front}
use Rattle.std.proofs.lemmas.List.{set_at, drop_more, length_push}

module _ {T : Type 0} (xs es es' : List T) (n : ℕ) (f : Front xs es es' n) where
  -- there is room for one more exactly if there was room for so many
  pub front_room : (n < length es') ↔ (n < length es)
  front_room =
      let e : length es' ≡ length xs + (length es - n) = ap length f.list ∙ length-append xs (drop n es) ∙ ap (λ (k : ℕ). length xs + k) (length-drop n es) in
      (λ h. omega (arith, e, f.count), λ h. omega (arith, e, f.count))

  -- one more
  pub front_more : (x : T) → n < length es → Front (xs ++ x ∷ []) es (set es' n x) (n + 1)
  front_more x h = record {
    count = ap (λ (k : ℕ). k + 1) f.count ∙ sym (length_push xs x);
    list =
        ap (λ (l : List T). set l n x) (f.list ∙ ap (λ (l : List T). xs ++ l) (drop_more es n x h)) ∙
        set_at xs (get_or es n x) (drop (n + 1) es) x n (sym f.count) ∙
        sym (append_assoc xs (x ∷ []) (drop (n + 1) es));
  }
