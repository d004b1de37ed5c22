-- Windows and restarts, one after the other, in words. Assumes nothing.
use Rattle.std.proofs.Common.{◌≡◌, ℕ, suc, ◌+◌, ◌-◌, ◌<◌, ◌≤◌, Bool, true, false, cond, List, [], ◌∷◌, ◌++◌, length, get_or, drop, codes, decimal, sym, ap, ◌∙◌, append_assoc, append-nil, arith}
use Rattle.std.proofs.lemmas.List.{drop_more, drop_all}
use Rattle.std.proofs.lemmas.Bool.{cond-true, cond-false}
use Rattle.chart.specs.declared.types.Window.{Window}
use Rattle.chart.specs.Charts.{Motion, restarts_timer}
use Rattle.chart.specs.Words.{window_words, windows_words, separator, restarts_from}

module _ (ws : List Window) (i : ℕ) (text : List ℕ) (inv : text ++ windows_words (drop i ws) ≡ windows_words ws) where
  pub windows_more : (w : Window) → i < length ws → w ≡ get_or ws i w → (text ++ (window_words w ++ codes "; ")) ++ windows_words (drop (i + 1) ws) ≡ windows_words ws
  unfolding windows_words
  windows_more w h e =
      append_assoc text (window_words w ++ codes "; ") (windows_words (drop (i + 1) ws))
      ∙ ap (λ (xs : List ℕ). text ++ xs) (append_assoc (window_words w) (codes "; ") (windows_words (drop (i + 1) ws)))
      ∙ ap (λ (x : Window). text ++ windows_words (x ∷ drop (i + 1) ws)) e ∙ ap (λ (xs : List Window). text ++ windows_words xs) (sym (drop_more ws i w h)) ∙ inv

  pub windows_all : length ws ≤ i → text ≡ windows_words ws
  unfolding windows_words
  windows_all h = sym (append-nil text) ∙ ap (λ (xs : List Window). text ++ windows_words xs) (sym (drop_all i ws h)) ∙ inv

module _ (m : Motion) (i : ℕ) (first : Bool) (text whole : List ℕ) (inv : text ++ restarts_from m (9 - i) i first ≡ whole) where
  module _ (h : i < 9) where
    next : restarts_from m (9 - i) i first ≡ cond (restarts_timer m i) (separator first ++ (codes "timer " ++ (decimal i ++ restarts_from m (9 - (i + 1)) (i + 1) false))) (restarts_from m (9 - (i + 1)) (i + 1) first)
    unfolding restarts_from
    next = let e : 9 - i ≡ suc (9 - (i + 1)) = omega arith in ap (λ (n : ℕ). restarts_from m n i first) e

    pub restarts_more : restarts_timer m i ≡ true → (text ++ (separator first ++ (codes "timer " ++ decimal i))) ++ restarts_from m (9 - (i + 1)) (i + 1) false ≡ whole
    restarts_more e =
        let rest = restarts_from m (9 - (i + 1)) (i + 1) false in
        append_assoc text (separator first ++ (codes "timer " ++ decimal i)) rest
        ∙ ap (λ (xs : List ℕ). text ++ xs) (append_assoc (separator first) (codes "timer " ++ decimal i) rest ∙ ap (λ (xs : List ℕ). separator first ++ xs) (append_assoc (codes "timer ") (decimal i) rest))
        ∙ ap (λ (xs : List ℕ). text ++ xs) (sym (next ∙ cond-true _ _ _ e)) ∙ inv

    pub restarts_skip : restarts_timer m i ≡ false → text ++ restarts_from m (9 - (i + 1)) (i + 1) first ≡ whole
    restarts_skip e = ap (λ (xs : List ℕ). text ++ xs) (sym (next ∙ cond-false _ _ _ e)) ∙ inv

  pub restarts_end : 9 ≤ i → text ++ cond first (codes "none") [] ≡ whole
  unfolding restarts_from
  restarts_end h = let e : 0 ≡ 9 - i = omega arith in ap (λ (n : ℕ). text ++ restarts_from m n i first) e ∙ inv
