-- An open: which numbers of timers there are, and the board afterwards. Assumes nothing.
use Rattle.std.proofs.Common.{◌≡◌, ℕ, ◌<◌, ◌≤◌, Some, None, Ok, Err, sym, refl, subst, inl, inr, arith}
use Rattle.chart.specs.declared.types.Timers.{Timers}
use Rattle.chart.specs.Ranges.{timers_of}
use Rattle.chart.proofs.Ranges.{timers_some, timers_back}
use Rattle.faults.specs.declared.types.BoardFault.TheVariants as fault
use Rattle.board.specs.Calls.{OpenIs, places}

-- other numbers are refused
pub other_number : (room n : ℕ) → None ≡ timers_of n → OpenIs room n (Err fault.Timers)
other_number room n e = inr (
  λ (some, most). let t : Timers = record { count = n; some = some; most = most } in
      let s : timers_of n ≡ Some t = timers_some t in let z : ◌≡◌ {A = ℕ} 0 1 = cc in omega arith,
  refl,
)

module _ (room n : ℕ) (t : Timers) (is : Some t ≡ timers_of n) where
  count_is : t.count ≡ n
  count_is = timers_back n t (sym is)

  range : (1 ≤ n) × (n ≤ 8)
  range = subst (λ (x : ℕ). (1 ≤ x) × (x ≤ 8)) count_is (t.some, t.most)

  pub short_table : room < places t.count → OpenIs room n (Err fault.Table)
  short_table short = inl (range, inr (λ fits. let h : room < places n = subst (λ (x : ℕ). room < places x) count_is short in omega arith, refl))

  pub accepted : places t.count ≤ room → OpenIs room n (Ok tt)
  accepted fits = inl (range, inl (subst (λ (x : ℕ). places x ≤ room) count_is fits, refl))
