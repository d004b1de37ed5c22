-- One call more, and boards made anew. Assumes nothing.
use Rattle.std.proofs.Common.{◌≡◌, ℕ, ◌+◌, ◌<◌, ◌≤◌, List, [], ◌∷◌, ◌++◌, map, length, get_or, take, vec_items, Vec, sym, refl, ap, ◌∙◌, subst, subst₂, arith}
use Rattle.std.proofs.lemmas.List.{take_more, length-map, get_or-map}
use Rattle.std.specs.declared.alloc.Global.{Global}
use Rattle.bound.specs.Meaning.{Meaning}
use Rattle.board.specs.declared.header.State.TheVariants.{Blank}
use Rattle.board.specs.Standing.{Standing, blank}
use Rattle.replay.specs.declared.slots.Slot.{Slot}
use Rattle.replay.specs.declared.calls.Call.{Call}
use Rattle.replay.specs.declared.calls.Answer.{Answer}
use Rattle.replay.specs.History.{Snapshot, after, accepted, Step, Lawful}
use Rattle.replay.specs.Slots.{items, snapshot, all_blank, Owns, AllOwn, Emptied, Serves, ServesAll}

module _ {B : Type 0} (m : Meaning B) where
  pub lawful_push : (from mid to : Snapshot B) (calls : List Call) (answers : List (Answer B)) (c : Call) (a : Answer B) → Lawful m from calls answers mid → Step m mid to c a
      → Lawful m from (calls ++ c ∷ []) (answers ++ a ∷ []) to
  lawful_push from mid to [] [] c a same step = (to, subst (λ (x : Snapshot B). Step m x to c a) same step, refl)
  lawful_push from mid to [] (b ∷ answers) c a l step = absurd l
  lawful_push from mid to (d ∷ calls) [] c a l step = absurd l
  lawful_push from mid to (d ∷ calls) (b ∷ answers) c a (next, first, l) step = (next, first, lawful_push next mid to calls answers c a l step)

  module _ (calls : List Call) (before : List (Slot B)) (works : List (Vec B Global)) where
    pub one_more : (i : ℕ) (d : Call) (slots next : List (Slot B)) (lent lent' : List (Vec B Global)) (answers more : List (Answer B)) (a : Answer B) → i < length calls → d ≡ get_or calls i d
        → more ≡ answers ++ a ∷ [] → ServesAll m (take i calls) answers before works slots lent → Serves m d a slots lent next lent' → ServesAll m (take (i + 1) calls) more before works next lent'
    one_more i d slots next lent lent' answers more a inside read pushed made serves charts all = go (made charts all)
      where
        go : ((charts' : List Standing) × Lawful m (snapshot charts before works) (take i calls) answers (snapshot charts' slots lent) × AllOwn m slots charts')
            → (charts' : List Standing) × Lawful m (snapshot charts before works) (take (i + 1) calls) more (snapshot charts' next lent') × AllOwn m next charts'
        go (charts', lawful, own) =
            let now = serves charts' own in
            let to = snapshot (after charts' d (accepted a)) next lent' in (
              after charts' d (accepted a),
              subst₂ (λ (x : List Call) (y : List (Answer B)). Lawful m (snapshot charts before works) x y to)
                  (sym (take_more calls i d inside ∙ ap (λ (x : Call). take i calls ++ x ∷ []) (sym read))) (sym pushed)
                  (lawful_push (snapshot charts before works) (snapshot charts' slots lent) to (take i calls) answers d a lawful now.0),
              now.1,
            )

  -- ── Boards made anew ──

  -- the first i boards are Blank, and every table is as it was
  pub record Blanked (before : List (Slot B)) (i : ℕ) (slots : List (Slot B)) : Type 0 where
    pub tables : map items slots ≡ map items before
    pub blank_below : (j : ℕ) (d : Slot B) → j < i → (get_or slots j d).header.state ≡ Blank

  pub all_blanked : (before : List (Slot B)) (i : ℕ) (slots : List (Slot B)) → length slots ≡ length before → length before ≤ i → Blanked before i slots → Emptied m before slots
  all_blanked before i slots many past done =
      record {
        tables = done.tables;
        blank = record {
          many = many ∙ sym (length-map before _);
          each = λ j d l. subst (Owns m (get_or slots j d)) (sym (get_or-map (λ (slot : Slot B). blank) before j d blank (omega arith))) (done.blank_below j d (omega arith));
        };
      }

  pub from_blank : (before slots : List (Slot B)) (works : List (Vec B Global)) → Emptied m before slots → snapshot (all_blank before) slots works ≡ snapshot (all_blank before) before works
  from_blank before slots works e = ap (λ (x : List (List B)). record { charts = all_blank before; tables = x; works = map vec_items works }) e.tables
