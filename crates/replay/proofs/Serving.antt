-- One call on one of some boards: the others stay, and the charts follow. Assumes nothing.
use Rattle.std.proofs.Common.{◌≡◌, ℕ, ◌<◌, Bool, true, false, cond, ◌≢◌, List, [], map, length, get_or, set, is_ok, vec_items, Option, Result, Vec, sym, refl, ap, ◌∙◌, subst, subst₂, inl, arith, length-set, get_or-set_other, get_or-set_same}
use native.Mathlib.Decide.{ℕ_discrete}
use Rattle.std.proofs.lemmas.List.{length-map, map-set, get_or-map, set-get_or, set-set, set_comm}
use Rattle.std.specs.declared.alloc.Global.{Global}
use Rattle.bound.specs.Meaning.{Meaning}
use Rattle.faults.specs.declared.types.BoardFault.{BoardFault}
use Rattle.board.specs.declared.header.Header.{Header}
use Rattle.runs.specs.Limits.{Name}
use Rattle.board.specs.Standing.{Standing, blank, opened, moved, joined}
use Rattle.board.specs.Calls.{OpenIs, MotionIs, JoinIs, RunsIs, CountIs, WithinIs, LimitIs, SpanIs}
use Rattle.board.specs.Left.{TableLeft, WorkLeft}
use Rattle.board.specs.Done.{MotionDone, JoinDone}
use Rattle.board.specs.Holding.{StandsFor}
use Rattle.replay.specs.declared.slots.Slot.{Slot}
use Rattle.replay.specs.declared.calls.Call.{Call}
use Rattle.replay.specs.declared.calls.Call.TheVariants as call
use Rattle.replay.specs.declared.calls.Answer.{Answer}
use Rattle.replay.specs.declared.calls.Answer.TheVariants as answer
use Rattle.replay.specs.History.{Snapshot, standing, after, accepted, Named, Kept, Does, Step}
use Rattle.replay.specs.Slots.{items, Same, snapshot, Owns, AllOwn, Serves}

-- charts that stay, accepted or not
pub cond_same : {A : Type 0} (ok : Bool) (x : A) → cond ok x x ≡ x
cond_same true x = refl
cond_same false x = refl

module _ {B : Type 0} (m : Meaning B) where
  -- what stands on a board stands on the same board
  pub own_same : (before after : Slot B) → Same before after → (s : Standing) → Owns m before s → Owns m after s
  own_same before after (h, e) s own = subst₂ (λ (x : Header) (y : List B). StandsFor m x y s) (sym h) (sym e) own

  module _ (slots : List (Slot B)) (charts : List Standing) (all : AllOwn m slots charts) (i : ℕ) (inside : i < length slots) (slot : Slot B) where
    in_charts : i < length charts
    in_charts = omega (arith, all.many)

    -- one board changes its chart, and the others stay
    settled : (s : Standing) → Owns m slot s → AllOwn m (set slots i slot) (set charts i s)
    settled s own =
        record {
          many = length-set slots i slot ∙ all.many ∙ sym (length-set charts i s);
          each = λ j d l. elim (ℕ_discrete j i) [
            | yes e ↦
                let Here : ℕ → Type 0 = λ x. Owns m (get_or (set slots i slot) x d) (standing (set charts i s) x) in
                subst Here (sym e) (subst₂ (Owns m) (sym (get_or-set_same slots i slot d inside)) (sym (get_or-set_same charts i s blank in_charts)) own)
            | no ne ↦
                subst₂ (Owns m) (sym (get_or-set_other slots i j slot d ne)) (sym (get_or-set_other charts i j s blank ne)) (all.each j d (omega (arith, length-set slots i slot)))
          ];
        }

    -- the charts stay
    pub unsettled : Owns m slot (standing charts i) → AllOwn m (set slots i slot) charts
    unsettled own = subst (AllOwn m (set slots i slot)) (set-get_or charts i blank) (settled (standing charts i) own)

    -- by whether the call was accepted
    pub settled_if : (ok : Bool) (s : Standing) → Owns m slot (cond ok s (standing charts i)) → AllOwn m (set slots i slot) (cond ok (set charts i s) charts)
    settled_if true s own = settled s own
    settled_if false s own = unsettled own

  -- the tables of the boards
  tables_set : (slots : List (Slot B)) (i : ℕ) (slot : Slot B) → map items (set slots i slot) ≡ set (map items slots) i (items slot)
  tables_set slots i slot = map-set items slots i slot

  -- a board's table
  pub table_at : (slots : List (Slot B)) (i : ℕ) (d : Slot B) → i < length slots → get_or (map items slots) i [] ≡ items (get_or slots i d)
  table_at slots i d inside = get_or-map items slots i d [] inside

  works_at : (works : List (Vec B Global)) (w : ℕ) (d : Vec B Global) → w < length works → get_or (map vec_items works) w [] ≡ vec_items (get_or works w d)
  works_at works w d inside = get_or-map vec_items works w d [] inside

  -- a table that is put back as it was
  pub tables_same : (slots : List (Slot B)) (i : ℕ) (d slot : Slot B) → i < length slots → items slot ≡ items (get_or slots i d) → map items (set slots i slot) ≡ map items slots
  tables_same slots i d slot inside e =
      tables_set slots i slot ∙ ap (λ (x : List B). set (map items slots) i x) (e ∙ sym (table_at slots i d inside)) ∙ set-get_or (map items slots) i []

  in_tables : (slots : List (Slot B)) (i : ℕ) → i < length slots → i < length (map items slots)
  in_tables slots i inside = omega (arith, length-map slots items, inside)

  in_works : (works : List (Vec B Global)) (w : ℕ) → w < length works → w < length (map vec_items works)
  in_works works w inside = omega (arith, length-map works vec_items, inside)

  -- what a work table holds, among the others
  works_set : (works : List (Vec B Global)) (w : ℕ) (work : Vec B Global) → map vec_items (set works w work) ≡ set (map vec_items works) w (vec_items work)
  works_set works w work = map-set vec_items works w work

  module _ (slots : List (Slot B)) (charts : List Standing) (all : AllOwn m slots charts) (works : List (Vec B Global)) (i : ℕ) (d slot : Slot B) (inside : i < length slots) where
    -- the board that the call is to
    pub here : Owns m (get_or slots i d) (standing charts i)
    here = all.each i d inside

    pub named : i < length (map items slots)
    named = in_tables slots i inside

    -- ── Calls on one board that change nothing ──

    own_kept : Same (get_or slots i d) slot → AllOwn m (set slots i slot) charts
    own_kept same = unsettled slots charts all i inside slot (own_same (get_or slots i d) slot same (standing charts i) here)

    pub reads : (c : Call) (a : Answer B) → ((ok : Bool) → after charts c ok ≡ charts) → Same (get_or slots i d) slot
        → ((t : Snapshot B) → Kept (snapshot charts slots works) t → Named (snapshot charts slots works) c × Does m (snapshot charts slots works) t c a)
        → Step m (snapshot charts slots works) (snapshot (after charts c (accepted a)) (set slots i slot) works) c a × AllOwn m (set slots i slot) (after charts c (accepted a))
    reads c a stay same does = (
      record { charts = refl; does = inl (does _ (record { tables = tables_same slots i d slot inside same.1; works = refl })) },
      subst (AllOwn m (set slots i slot)) (sym (stay (accepted a))) (own_kept same),
    )

    -- ── Open ──

    pub opens : (n : ℕ) (r : Result (Unit {0}) BoardFault) → OpenIs (length (items (get_or slots i d))) n r
        → Owns m slot (cond (is_ok r) (opened n (standing charts i)) (standing charts i)) → TableLeft m (opened n (standing charts i)) (items (get_or slots i d)) (items slot) r
        → Step m (snapshot charts slots works) (snapshot (after charts (call.Open i n) (is_ok r)) (set slots i slot) works) (call.Open i n) (answer.Opened r)
        × AllOwn m (set slots i slot) (after charts (call.Open i n) (is_ok r))
    opens n r right own left = (
      record {
        charts = refl;
        does = inl (
          named,
          (
            r,
            refl,
            record {
              answer = subst (λ (x : List B). OpenIs (length x) n r) (sym (table_at slots i d inside)) right;
              table = items slot;
              left = subst (λ (x : List B). TableLeft m (opened n (standing charts i)) x (items slot) r) (sym (table_at slots i d inside)) left;
              tables = tables_set slots i slot;
              works = refl;
            },
          ),
        );
      },
      settled_if slots charts all i inside slot (is_ok r) (opened n (standing charts i)) own,
    )

    -- ── Motion ──

    module _ (w : ℕ) (e work : Vec B Global) (inside' : w < length works) where
      pub moves : (bytes : Vec ℕ Global) (r : Result ℕ BoardFault)
          → MotionDone m (length (vec_items (get_or works w e))) (vec_items bytes) slot.header (items (get_or slots i d)) (items slot) (vec_items (get_or works w e)) (vec_items work) r (standing charts i)
          → Step m (snapshot charts slots works) (snapshot (after charts (call.Motion i w bytes) (is_ok r)) (set slots i slot) (set works w work)) (call.Motion i w bytes) (answer.Moved r)
          × AllOwn m (set slots i slot) (after charts (call.Motion i w bytes) (is_ok r))
      moves bytes r done = (
        record {
          charts = refl;
          does = inl (
            (named, in_works works w inside'),
            (
              r,
              refl,
              record {
                answer = subst (λ (x : List B). MotionIs m (length x) (standing charts i) (vec_items bytes) r) (sym (works_at works w e inside')) done.answer;
                table = items slot;
                left = subst (λ (x : List B). TableLeft m (moved (vec_items bytes) (standing charts i)) x (items slot) r) (sym (table_at slots i d inside)) done.table;
                tables = tables_set slots i slot;
                work = vec_items work;
                lent = subst (λ (x : List B). WorkLeft m (standing charts i) x (vec_items work) r) (sym (works_at works w e inside')) done.lent;
                works = works_set works w work;
              },
            ),
          );
        },
        settled_if slots charts all i inside slot (is_ok r) (moved (vec_items bytes) (standing charts i)) done.stands,
      )

  -- ── Two boards ──

  module _ (slots : List (Slot B)) (charts : List Standing) (all : AllOwn m slots charts) (works : List (Vec B Global)) (i j : ℕ) (d d' spare own other : Slot B)
      (inside : i < length slots) (inside' : j < length slots) (apart : i ≢ j) (same : Same (get_or slots j d') other) where
    -- the board's own place was empty for the length of the call
    two_set : set (set (set slots i spare) j other) i own ≡ set (set slots j other) i own
    two_set = ap (λ (l : List (Slot B)). set l i own) (set_comm slots i j spare other apart) ∙ set-set (set slots j other) i spare own

    all' : AllOwn m (set slots j other) charts
    all' = own_kept slots charts all works j d' other inside' same

    in_other : i < length (set slots j other)
    in_other = omega (arith, length-set slots j other, inside)

    other_tables : map items (set slots j other) ≡ map items slots
    other_tables = tables_same slots j d' other inside' same.1

    own_is : get_or (set slots j other) i d ≡ get_or slots i d
    own_is = get_or-set_other slots j i other d apart

    joins_set : (w : ℕ) (e work : Vec B Global) → w < length works → (r : Result (Unit {0}) BoardFault)
        → JoinDone m (length (vec_items (get_or works w e))) own.header (items (get_or slots i d)) (items own) (vec_items (get_or works w e)) (vec_items work) r (standing charts i) (standing charts j)
        → Step m (snapshot charts slots works) (snapshot (after charts (call.Join i j w) (is_ok r)) (set (set slots j other) i own) (set works w work)) (call.Join i j w) (answer.Joined r)
        × AllOwn m (set (set slots j other) i own) (after charts (call.Join i j w) (is_ok r))
    joins_set w e work inside'' r done = (
      record {
        charts = refl;
        does = inl (
          (in_tables slots i inside, in_tables slots j inside', apart, in_works works w inside''),
          (
            r,
            refl,
            record {
              answer = subst (λ (x : List B). JoinIs m (length x) (standing charts i) (standing charts j) r) (sym (works_at works w e inside'')) done.answer;
              table = items own;
              left = subst (λ (x : List B). TableLeft m (joined (standing charts i) (standing charts j)) x (items own) r) (sym (table_at slots i d inside)) done.table;
              tables = tables_set (set slots j other) i own ∙ ap (λ (x : List (List B)). set x i (items own)) other_tables;
              work = vec_items work;
              lent = subst (λ (x : List B). WorkLeft m (standing charts i) x (vec_items work) r) (sym (works_at works w e inside'')) done.lent;
              works = works_set works w work;
            },
          ),
        );
      },
      settled_if (set slots j other) charts all' i in_other own (is_ok r) (joined (standing charts i) (standing charts j)) done.stands,
    )

    pub joins : (w : ℕ) (e work : Vec B Global) → w < length works → (r : Result (Unit {0}) BoardFault)
        → JoinDone m (length (vec_items (get_or works w e))) own.header (items (get_or slots i d)) (items own) (vec_items (get_or works w e)) (vec_items work) r (standing charts i) (standing charts j)
        → Step m (snapshot charts slots works) (snapshot (after charts (call.Join i j w) (is_ok r)) (set (set (set slots i spare) j other) i own) (set works w work)) (call.Join i j w) (answer.Joined r)
        × AllOwn m (set (set (set slots i spare) j other) i own) (after charts (call.Join i j w) (is_ok r))
    joins w e work inside'' r done =
        subst (λ (x : List (Slot B)). Step m (snapshot charts slots works) (snapshot (after charts (call.Join i j w) (is_ok r)) x (set works w work)) (call.Join i j w) (answer.Joined r)
        × AllOwn m x (after charts (call.Join i j w) (is_ok r))) (sym two_set) (joins_set w e work inside'' r done)

    pub compares : (r : Result (Option Name) BoardFault) → Same (get_or slots i d) own → WithinIs m (standing charts i) (standing charts j) r
        → Step m (snapshot charts slots works) (snapshot (after charts (call.Within i j) (is_ok r)) (set (set (set slots i spare) j other) i own) works) (call.Within i j) (answer.Compared r)
        × AllOwn m (set (set (set slots i spare) j other) i own) (after charts (call.Within i j) (is_ok r))
    compares r still right =
        let still' = subst (λ (x : Slot B). Same x own) (sym own_is) still in
        let stay = cond_same (is_ok r) charts in
        subst (λ (x : List (Slot B)). Step m (snapshot charts slots works) (snapshot (after charts (call.Within i j) (is_ok r)) x works) (call.Within i j) (answer.Compared r)
        × AllOwn m x (after charts (call.Within i j) (is_ok r))) (sym two_set) (
          record {
            charts = refl;
            does = inl (
              (in_tables slots i inside, in_tables slots j inside', apart),
              (
                r,
                refl,
                right,
                record {
                  tables = tables_same (set slots j other) i d own in_other still'.1 ∙ other_tables;
                  works = refl;
                },
              ),
            );
          },
          subst (AllOwn m (set (set slots j other) i own)) (sym stay) (own_kept (set slots j other) charts all' works i d own in_other still'),
        )

  -- ── By contracts that hold for every chart of a board ──

  -- a call that is another by an equation
  pub serves_as : (c d : Call) (a : Answer B) (slots slots' : List (Slot B)) (works works' : List (Vec B Global)) → c ≡ d → Serves m d a slots works slots' works' → Serves m c a slots works slots' works'
  serves_as c d a slots slots' works works' e made = subst (λ (x : Call). Serves m x a slots works slots' works') (sym e) made

  -- an element is known by itself in its place
  module _ (slots : List (Slot B)) (works : List (Vec B Global)) (i : ℕ) (was slot : Slot B) (inside : i < length slots) (is : was ≡ get_or slots i was) where
    owns : (charts : List Standing) → AllOwn m slots charts → Owns m was (standing charts i)
    owns charts all = subst (λ (x : Slot B). Owns m x (standing charts i)) (sym is) (all.each i was inside)

    pub open_serves : (n : ℕ) (r : Result (Unit {0}) BoardFault) → OpenIs (length (items was)) n r
        → ((s : Standing) → Owns m was s → Owns m slot (cond (is_ok r) (opened n s) s)) → ((s : Standing) → TableLeft m (opened n s) (items was) (items slot) r)
        → Serves m (call.Open i n) (answer.Opened r) slots works (set slots i slot) works
    open_serves n r right stands left charts all =
        opens slots charts all works i was slot inside n r (subst (λ (x : Slot B). OpenIs (length (items x)) n r) is right) (stands (standing charts i) (owns charts all))
        (subst (λ (x : Slot B). TableLeft m (opened n (standing charts i)) (items x) (items slot) r) is (left (standing charts i)))

    pub motion_serves : (w : ℕ) (lent work : Vec B Global) → w < length works → lent ≡ get_or works w lent → (bytes : Vec ℕ Global) (r : Result ℕ BoardFault)
        → ((s : Standing) → Owns m was s → MotionDone m (length (vec_items lent)) (vec_items bytes) slot.header (items was) (items slot) (vec_items lent) (vec_items work) r s)
        → Serves m (call.Motion i w bytes) (answer.Moved r) slots works (set slots i slot) (set works w work)
    motion_serves w lent work inside' is' bytes r done charts all =
        moves slots charts all works i was slot inside w lent work inside' bytes r
        (subst₂ (λ (x : Slot B) (y : Vec B Global). MotionDone m (length (vec_items y)) (vec_items bytes) slot.header (items x) (items slot) (vec_items y) (vec_items work) r (standing charts i)) is is'
        (done (standing charts i) (owns charts all)))

    module _ (same : Same was slot) where
      read_serves : (c : Call) (a : Answer B) → ((charts : List Standing) (ok : Bool) → after charts c ok ≡ charts)
          → ((charts : List Standing) (t : Snapshot B) → Owns m was (standing charts i) → Kept (snapshot charts slots works) t → Does m (snapshot charts slots works) t c a)
          → ((charts : List Standing) → Named (snapshot charts slots works) c) → Serves m c a slots works (set slots i slot) works
      read_serves c a stay does names charts all =
          reads slots charts all works i was slot inside c a (stay charts) (subst (λ (x : Slot B). Same x slot) is same) (λ t kept. (names charts, does charts t (owns charts all) kept))

      pub runs_told : (r : Result Bool BoardFault) → ((s : Standing) → Owns m was s → RunsIs m s r) → Serves m (call.Runs i) (answer.Runs r) slots works (set slots i slot) works
      runs_told r so = read_serves (call.Runs i) (answer.Runs r) (λ charts ok. cond_same ok charts) (λ charts t own kept. (r, refl, so (standing charts i) own, kept)) (λ charts. in_tables slots i inside)

      pub counted : (r : Result ℕ BoardFault) → ((s : Standing) → Owns m was s → CountIs s r) → Serves m (call.Count i) (answer.Counted r) slots works (set slots i slot) works
      counted r so = read_serves (call.Count i) (answer.Counted r) (λ charts ok. cond_same ok charts) (λ charts t own kept. (r, refl, so (standing charts i) own, kept)) (λ charts. in_tables slots i inside)

      pub limited : (l : Name) (r : Result B BoardFault) → ((s : Standing) → Owns m was s → LimitIs m s l r) → Serves m (call.Limit i l) (answer.Limited r) slots works (set slots i slot) works
      limited l r so = read_serves (call.Limit i l) (answer.Limited r) (λ charts ok. cond_same ok charts) (λ charts t own kept. (r, refl, so (standing charts i) own, kept)) (λ charts. in_tables slots i inside)

      pub spanned : (r : Result (B × B) BoardFault) → ((s : Standing) → Owns m was s → SpanIs m s r) → Serves m (call.Span i) (answer.Spanned r) slots works (set slots i slot) works
      spanned r so = read_serves (call.Span i) (answer.Spanned r) (λ charts ok. cond_same ok charts) (λ charts t own kept. (r, refl, so (standing charts i) own, kept)) (λ charts. in_tables slots i inside)

  module _ (slots : List (Slot B)) (works : List (Vec B Global)) (i j : ℕ) (was was' own other : Slot B) (inside : i < length slots) (inside' : j < length slots) (apart : i ≢ j)
      (is : was ≡ get_or slots i was) (is' : was' ≡ get_or slots j was') (same : Same was' other) where
    -- it does not matter which is written first, nor whether one is written twice
    both_set : set (set (set slots i own) j other) i own ≡ set (set slots i own) j other
    both_set = sym (set_comm (set slots i own) i j own other apart) ∙ ap (λ (l : List (Slot B)). set l j other) (set-set slots i own own)

    still : Same (get_or slots j was') other
    still = subst (λ (x : Slot B). Same x other) is' same

    pub join_serves : (w : ℕ) (lent work : Vec B Global) → w < length works → lent ≡ get_or works w lent → (r : Result (Unit {0}) BoardFault)
        → ((s t : Standing) → Owns m was s → Owns m was' t → JoinDone m (length (vec_items lent)) own.header (items was) (items own) (vec_items lent) (vec_items work) r s t)
        → Serves m (call.Join i j w) (answer.Joined r) slots works (set (set slots i own) j other) (set works w work)
    join_serves w lent work inside'' is'' r done charts all =
        subst (λ (x : List (Slot B)). Step m (snapshot charts slots works) (snapshot (after charts (call.Join i j w) (is_ok r)) x (set works w work)) (call.Join i j w) (answer.Joined r)
        × AllOwn m x (after charts (call.Join i j w) (is_ok r))) both_set
        (joins slots charts all works i j was was' own own other inside inside' apart still w lent work inside'' r
        (subst₂ (λ (x : Slot B) (y : Vec B Global). JoinDone m (length (vec_items y)) own.header (items x) (items own) (vec_items y) (vec_items work) r (standing charts i) (standing charts j)) is is''
        (done (standing charts i) (standing charts j) (owns slots works i was own inside is charts all) (owns slots works j was' other inside' is' charts all))))

    pub within_serves : (r : Result (Option Name) BoardFault) → Same was own → ((s t : Standing) → Owns m was s → Owns m was' t → WithinIs m s t r)
        → Serves m (call.Within i j) (answer.Compared r) slots works (set (set slots i own) j other) works
    within_serves r kept right charts all =
        subst (λ (x : List (Slot B)). Step m (snapshot charts slots works) (snapshot (after charts (call.Within i j) (is_ok r)) x works) (call.Within i j) (answer.Compared r)
        × AllOwn m x (after charts (call.Within i j) (is_ok r))) both_set
        (compares slots charts all works i j was was' own own other inside inside' apart still r (subst (λ (x : Slot B). Same x own) is kept)
        (right (standing charts i) (standing charts j) (owns slots works i was own inside is charts all) (owns slots works j was' other inside' is' charts all)))
