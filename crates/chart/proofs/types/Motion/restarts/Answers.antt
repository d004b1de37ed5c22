use Rattle.std.proofs.Common.{◌≡◌, ℕ, ◌-◌, ◌*◌, ◌/◌, ◌%◌, ◌^◌, ◌<◌, ◌≤◌, Bool, true, false, ◌&&◌, eqb, leb, sym, ap, ◌∙◌, ⊎_elim, arith, pow_mono}
use Rattle.std.proofs.lemmas.Nat.{and_mask, pow_pos, div_below}
use Rattle.std.proofs.lemmas.Bool.{le-leb, lt-leb, and_left, and_right, ne_eqb}
use Rattle.chart.proofs.types.Motion.restarts.Goals as goal

-- bits above the eighth are 0
high : (bits timer : ℕ) → bits < 256 → 8 < timer → eqb (bits / 2 ^ (timer - 1) % 2) 1 ≡ false
high bits timer small h =
    let p : 2 ^ 8 ≤ 2 ^ (timer - 1) = pow_mono {i = 8} {j = timer - 1} (omega arith) in
    let q : bits < 1 * 2 ^ (timer - 1) = omega arith in
    let z : bits / 2 ^ (timer - 1) < 1 = div_below bits (2 ^ (timer - 1)) 1 (pow_pos (timer - 1)) q in
    ne_eqb (bits / 2 ^ (timer - 1) % 2) 1 (λ e. omega (arith, e))

pub returns-then-timer-eq0 : goal.returns-then-timer-eq0
returns-then-timer-eq0 c =
    let timer = c.args.timer in
    let bits = c.args.self.now.restarts in
    let small : bits < 256 = omega arith in
    ⊎_elim
    (λ e. let h : timer < 1 = omega (arith, e) in sym (and_left (leb 1 timer) (eqb (bits / 2 ^ (timer - 1) % 2) 1) (lt-leb 1 timer h)))
    (λ e. sym (and_right (leb 1 timer) (eqb (bits / 2 ^ (timer - 1) % 2) 1) (high bits timer small e.1)))
    c.then-timer-eq0.either

pub returns : goal.returns
returns c =
    let timer = c.args.timer in
    let bits = c.args.self.now.restarts in
    let t : leb 1 timer ≡ true = le-leb 1 timer (omega arith) in
    ap (λ (x : ℕ). eqb x 1) (and_mask (bits / 2 ^ (timer - 1)) 1) ∙ sym (ap (λ (b : Bool). b && eqb (bits / 2 ^ (timer - 1) % 2) 1) t)
