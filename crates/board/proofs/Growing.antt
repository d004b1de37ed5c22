-- A board whose chart may become a longer one, by what the working finds. Assumes nothing.
use Rattle.std.proofs.Common.{◌≡◌, ℕ, ◌+◌, ◌*◌, ◌^◌, ◌<◌, ◌≤◌, cond, List, [], ◌∷◌, ◌++◌, length, is_ok, Ok, Err, Result, sym, refl, ap, ◌∙◌, subst, subst₂, inl, inr, arith, length-append}
use Rattle.bound.specs.Meaning.{Meaning, Laws}
use Rattle.chart.specs.declared.types.Timers.{Timers}
use Rattle.chart.specs.declared.types.MotionFault.{MotionFault}
use Rattle.chart.specs.Charts.{Motion, Chart, ChartOf, MotionOf}
use Rattle.chart.specs.Reading.{motion_of}
use Rattle.faults.specs.declared.types.BoardFault.{BoardFault}
use Rattle.faults.specs.declared.types.BoardFault.TheVariants as fault
use Rattle.runs.specs.Graph as graph
use Rattle.runs.specs.Normal.{place}
use Rattle.runs.proofs.Lists.{all_append}
use Rattle.runs.proofs.Chains.{never_runs}
use Rattle.runs.proofs.Embed.{never_first}
use Rattle.runs.proofs.Normals.{large_place}
use Rattle.table.specs.declared.found.Found.{Found}
use Rattle.table.specs.declared.found.Found.TheVariants as found
use Rattle.table.specs.Cells.{Beyond}
use Rattle.table.specs.Finds.{ChartTable, Finds, Kept}
use Rattle.board.specs.declared.header.Header.{Header}
use Rattle.board.specs.declared.header.State.{State}
use Rattle.board.specs.declared.header.State.TheVariants.{Blank, Runs, Never}
use Rattle.board.specs.Standing.{Standing, blank, charted, with_motion}
use Rattle.board.specs.Calls.{TooLarge, NoPair, ReadIs, places, work_places}
use Rattle.board.specs.Left.{Cleared, RefusedWork, TableLeft, WorkLeft}
use Rattle.board.specs.Holding.{StateIs, Holds, StandsFor, TimersAre}
use Rattle.board.specs.Done.{MotionDone, JoinDone}
use Rattle.board.specs.Settling.{settle_answer, settled_by, grown}
use Rattle.board.proofs.Standings.{when_opened}

-- what has become of a board whose chart c may become a longer one, by the answer
pub record Grown {B : Type 0} (m : Meaning B) (n : Timers) (c longer : Chart) (h : Header) (before after : List B) (r : Result (Unit {0}) BoardFault) : Type 0 where
  pub fine : r ≡ Ok tt → TooLarge m n.count longer → ⊥
  pub refused : (f : BoardFault) → r ≡ Err f → (f ≡ fault.Size) × TooLarge m n.count longer
  pub stands : StandsFor m h after (cond (is_ok r) (charted n longer) (charted n c))
  pub left : TableLeft m (charted n longer) before after r

-- an answer is not both
ok_err : {X T : Type 0} {x : T} {f : BoardFault} → ◌≡◌ {A = Result T BoardFault} (Ok x) (Err f) → X
ok_err e = let z : ◌≡◌ {A = ℕ} 0 1 = cc in absurd (omega arith)

module _ {B : Type 0} (m : Meaning B) (laws : Laws m) (n : Timers) (longer : Chart) where
  -- no size is above 2^40 in the table of a chart that is taken
  not_large : (table : List B) → ChartTable m n.count longer table → TooLarge m n.count longer → ⊥
  not_large table its (_, large) = go ((large_place m laws n.count longer table its.normalised).0 large)
    where
      go : ((u : ℕ) × (v : ℕ) × (u < 2 * n.count + 2) × (v < 2 * n.count + 2) × (2 ^ 40 < m.size_of (place m n.count table u v))) → ⊥
      go (u, v, hu, hv, over) = let h = its.small u v hu hv in omega (arith, h, over)

  module _ (c : Chart) (h : Header) (before after : List B) (more : ℕ) (holds : Holds m h before n c) (of : ChartOf n.count longer) (long : length longer ≡ length c + more)
      (room : length after ≡ length before) (onward : graph.Never m.differences n.count c → graph.Never m.differences n.count longer)
      (beyond : Beyond m (places n.count) before after) where
    next : (s : State) → StateIs m s n longer after → Holds m (grown h s more) after n longer
    next s is = record { timers = holds.timers; count = ap (λ (k : ℕ). k + more) holds.count ∙ sym long; room = omega (arith, holds.room, room); fits = of; state = is }

    by_state : (s : State) → StateIs m s n c before → (f : Found) → Finds m n.count longer after f → Kept before after f
        → Grown m n c longer (settled_by s f h more) before after (settle_answer s f)
    by_state Blank is f finds kept = absurd is
    by_state Runs is found.Runs finds kept =
        record { fine = λ _. not_large after finds; refused = λ f e. ok_err e; stands = next Runs finds; left = inl (finds.runs, finds.normalised, beyond) }
    by_state Runs is found.Never finds kept =
        let none = never_runs laws.ordered finds in
        record { fine = λ _ large. none large.0; refused = λ f e. ok_err e; stands = next Never finds; left = inr (none, kept) }
    by_state Runs is found.Large finds kept =
        record { fine = λ e. ok_err (sym e); refused = λ f e. ((cc), finds); stands = subst (λ (t : List B). Holds m h t n c) (sym kept) holds; left = kept }
    by_state Never is found.Runs finds kept = absurd (never_runs laws.ordered (onward is) finds.runs)
    by_state Never is found.Never finds kept =
        let none = never_runs laws.ordered finds in
        record { fine = λ _ large. none large.0; refused = λ f e. ok_err e; stands = next Never finds; left = inr (none, kept) }
    by_state Never is found.Large finds kept = absurd (never_runs laws.ordered (onward is) finds.0)

    pub grown_by : (f : Found) → Finds m n.count longer after f → Kept before after f → Grown m n c longer (settled_by h.state f h more) before after (settle_answer h.state f)
    grown_by = by_state h.state holds.state

-- ── A motion ──

-- what a motion does to a board that stands for a chart, by what is read of the bytes
record ReadDone {B : Type 0} (m : Meaning B) (h' : Header) (before after work work' : List B) (r : Result ℕ BoardFault) (n : Timers) (c : Chart) (read : Result (Motion × ℕ) MotionFault) : Type 0 where
  answer : ReadIs m n.count c read r
  stands : StandsFor m h' after (cond (is_ok r) (charted n (with_motion n c read)) (charted n c))
  table : TableLeft m (charted n (with_motion n c read)) before after r
  lent : WorkLeft m (charted n c) work work' r

-- the answer of a motion, by that of the header
abbrev pub with_used : ℕ → Result (Unit {0}) BoardFault → Result ℕ BoardFault
with_used used (Ok x) = Ok used
with_used used (Err f) = Err f

module _ {B : Type 0} (m : Meaning B) (laws : Laws m) (n : Timers) (h : Header) (before work : List B) (bytes : List ℕ) (motion : Motion) (used : ℕ)
    (are : TimersAre h (length before) (Ok n)) (fits : work_places n.count ≤ length work) (read : Ok (motion, used) ≡ motion_of n bytes) where
  done : (h' : Header) (after work' : List B) (r : Result ℕ BoardFault) → ((c : Chart) → Holds m h before n c → ReadDone m h' before after work work' r n c (Ok (motion, used)))
      → (s : Standing) → StandsFor m h before s → MotionDone m (length work) bytes h' before after work work' r s
  done h' after work' r so =
      when_opened m h before n are.1 are.0 (MotionDone m (length work) bytes h' before after work work' r) (λ c holds.
      let d = subst (ReadDone m h' before after work work' r n c) read (so c holds) in
      record { answer = inl (fits, d.answer); stands = d.stands; table = d.table; lent = d.lent })

  -- refused for the chart's length
  pub motion_long : 10 ^ 9 ≤ h.count → (s : Standing) → StandsFor m h before s → MotionDone m (length work) bytes h before before work work (Err fault.Count) s
  motion_long long =
      done h before work (Err fault.Count) (λ c holds.
      record { answer = inr (λ few. omega (arith, length-append c (motion ∷ []), holds.count), refl); stands = holds; table = refl; lent = refl })

  module _ (h' : Header) (after work' : List B) (f : Found) (r : Result (Unit {0}) BoardFault) (few : h.count < 10 ^ 9) (of : MotionOf n.count motion) (room : length after ≡ length before)
      (finds : (c : Chart) → StateIs m h.state n c before → Finds m n.count (c ++ motion ∷ []) after f) (kept : Kept before after f) (beyond : Beyond m (places n.count) before after)
      (clean : Cleared m (work_places n.count) work work') (answer : r ≡ settle_answer h.state f) (next : h' ≡ settled_by h.state f h 1) where
    one_more : (c : Chart) → Holds m h before n c → Grown m n c (c ++ motion ∷ []) h' before after r
    one_more c holds =
        subst₂ (λ (x : Header) (y : Result (Unit {0}) BoardFault). Grown m n c (c ++ motion ∷ []) x before after y) (sym next) (sym answer)
        (grown_by m laws n (c ++ motion ∷ []) c h before after 1 holds (all_append (MotionOf n.count) c (motion ∷ []) holds.fits (of, tt)) (length-append c (motion ∷ [])) room
        (never_first m.differences c (motion ∷ [])) beyond f (finds c holds.state) kept)

    settled : (c : Chart) → Holds m h before n c → (q : Result (Unit {0}) BoardFault) → Grown m n c (c ++ motion ∷ []) h' before after q
        → ReadDone m h' before after work work' (with_used used q) n c (Ok (motion, used))
    settled c holds (Ok x) g =
        record { answer = inl (omega (arith, length-append c (motion ∷ []), holds.count), inr (g.fine refl, refl)); stands = g.stands; table = g.left; lent = clean }
    settled c holds (Err e) g =
        let p = g.refused e refl in
        record {
          answer = inl (omega (arith, length-append c (motion ∷ []), holds.count), inl (p.1, ap Err p.0));
          stands = g.stands;
          table = g.left;
          lent = subst (λ (x : BoardFault). RefusedWork m (work_places n.count) work work' x) (sym p.0) clean;
        }

    -- the working has decided
    pub motion_settled : (s : Standing) → StandsFor m h before s → MotionDone m (length work) bytes h' before after work work' (with_used used r) s
    motion_settled = done h' after work' (with_used used r) (λ c holds. settled c holds r (one_more c holds))

-- ── A join ──

-- refused for what the other board is
pub join_refused : {B : Type 0} (m : Meaning B) (h : Header) (before work : List B) (f : BoardFault) (s t : Standing) → StandsFor m h before s → NoPair s t f
    → JoinDone m (length work) h before before work work (Err f) s t
join_refused m h before work f blank t st e =
    subst (λ (x : BoardFault). JoinDone m (length work) h before before work work (Err x) blank t) (sym e) (record { answer = refl; stands = st; table = refl; lent = refl })
join_refused m h before work f (charted n c) blank st e =
    subst (λ (x : BoardFault). JoinDone m (length work) h before before work work (Err x) (charted n c) blank) (sym e) (record { answer = refl; stands = st; table = refl; lent = refl })
join_refused m h before work f (charted n c) (charted k d) st (ne, e) =
    subst (λ (x : BoardFault). JoinDone m (length work) h before before work work (Err x) (charted n c) (charted k d)) (sym e)
    (record { answer = inr (ne, refl); stands = st; table = refl; lent = refl })

module _ {B : Type 0} (m : Meaning B) (laws : Laws m) (n k : Timers) (h e : Header) (before other work : List B)
    (are : TimersAre h (length before) (Ok n)) (others_are : TimersAre e (length other) (Ok k)) (same : n.count ≡ k.count) (fits : work_places n.count ≤ length work) where
  both_done : (h' : Header) (after work' : List B) (r : Result (Unit {0}) BoardFault)
      → ((c d : Chart) → Holds m h before n c → Holds m e other k d → JoinDone m (length work) h' before after work work' r (charted n c) (charted k d))
      → (s t : Standing) → StandsFor m h before s → StandsFor m e other t → JoinDone m (length work) h' before after work work' r s t
  both_done h' after work' r so s t st st' =
      when_opened m h before n are.1 are.0 (λ x. JoinDone m (length work) h' before after work work' r x t)
      (λ c holds. when_opened m e other k others_are.1 others_are.0 (JoinDone m (length work) h' before after work work' r (charted n c)) (λ d holds'. so c d holds holds') t st') s st

  -- refused for the length of both charts
  pub join_long : 10 ^ 9 < h.count + e.count → (s t : Standing) → StandsFor m h before s → StandsFor m e other t → JoinDone m (length work) h before before work work (Err fault.Count) s t
  join_long long =
      both_done h before work (Err fault.Count) (λ c d holds holds'.
      record { answer = inl (same, inl (fits, inr (λ few. omega (arith, length-append c d, holds.count, holds'.count), refl))); stands = holds; table = refl; lent = refl })

  module _ (h' : Header) (after work' : List B) (f : Found) (r : Result (Unit {0}) BoardFault) (few : h.count + e.count ≤ 10 ^ 9) (room : length after ≡ length before)
      (finds : (c d : Chart) → StateIs m h.state n c before → StateIs m e.state n d other → ChartOf n.count d → Finds m n.count (c ++ d) after f)
      (kept : Kept before after f) (beyond : Beyond m (places n.count) before after)
      (clean : Cleared m (work_places n.count) work work') (answer : r ≡ settle_answer h.state f) (next : h' ≡ settled_by h.state f h e.count) where
    -- what the other board holds, by as many timers
    other_state : (s : State) (d : Chart) → StateIs m s k d other → StateIs m s n d other
    other_state Blank d is = is
    other_state Runs d is = subst (λ (x : ℕ). ChartTable m x d other) (sym same) is
    other_state Never d is = subst (λ (x : ℕ). graph.Never m.differences x d) (sym same) is

    together : (c d : Chart) → Holds m h before n c → Holds m e other k d → Grown m n c (c ++ d) h' before after r
    together c d holds holds' =
        let of = subst (λ (x : ℕ). ChartOf x d) (sym same) holds'.fits in
        subst₂ (λ (x : Header) (y : Result (Unit {0}) BoardFault). Grown m n c (c ++ d) x before after y) (sym next) (sym answer)
        (grown_by m laws n (c ++ d) c h before after e.count holds (all_append (MotionOf n.count) c d holds.fits of)
        (length-append c d ∙ ap (λ (x : ℕ). length c + x) (sym holds'.count)) room
        (never_first m.differences c d) beyond f (finds c d holds.state (other_state e.state d holds'.state) of) kept)

    settled_both : (c d : Chart) → Holds m h before n c → Holds m e other k d → (q : Result (Unit {0}) BoardFault) → Grown m n c (c ++ d) h' before after q
        → JoinDone m (length work) h' before after work work' q (charted n c) (charted k d)
    settled_both c d holds holds' (Ok x) g =
        record {
          answer = inl (same, inl (fits, inl (omega (arith, length-append c d, holds.count, holds'.count), inr (g.fine refl, refl))));
          stands = g.stands;
          table = g.left;
          lent = clean;
        }
    settled_both c d holds holds' (Err x) g =
        let p = g.refused x refl in
        record {
          answer = inl (same, inl (fits, inl (omega (arith, length-append c d, holds.count, holds'.count), inl (p.1, ap Err p.0))));
          stands = g.stands;
          table = g.left;
          lent = subst (λ (x : BoardFault). RefusedWork m (work_places n.count) work work' x) (sym p.0) clean;
        }

    -- the working has decided
    pub join_settled : (s t : Standing) → StandsFor m h before s → StandsFor m e other t → JoinDone m (length work) h' before after work work' r s t
    join_settled = both_done h' after work' r (λ c d holds holds'. settled_both c d holds holds' r (together c d holds holds'))
