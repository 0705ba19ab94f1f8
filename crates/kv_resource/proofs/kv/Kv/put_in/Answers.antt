use Rattle.std.specs.Prelude.{find, position}
use Rattle.std.specs.Option.{option_map}
use Rattle.std.proofs.Common.{◌≡◌, ◌∙◌, ◌||◌, ◌++◌, ◌∷◌, [], ap, sym, refl, true, false, nat_lt, List, ℕ, Option, Some, None, length, set}
use Rattle.slotted.proofs.Results.{on_ok}
use Rattle.dtx_values.specs.TxIds.{number_of}
use Rattle.kv_resource.specs.Store.{Busy, KvDraft, KvMemory, Pair, draft_of, has_slot, is_busy_draft, is_busy_record, is_draft_of, is_record_of, on_open, open_records, pair_of_draft, pair_of_record, with_draft, writes_of, wrote_key}
use Rattle.kv_resource.proofs.Finding.{Slots, find_draft, is_draft_at, none_draft, put_draft}
use Rattle.kv_resource.proofs.Refusing.{no_draft_busy, no_record, refused_by, slot_none, slot_there, some_draft, some_record}
use Rattle.kv_resource.proofs.kv.Kv.put_in.Goals as goal
use Rattle.kv_resource.proofs.kv.Kv.put_in.Goals.{in-Ok, in-Err}

-- the pair that another record or draft is of
busy_of : (a b : Pair) → a ≡ b → Some (Busy b.0 b.1) ≡ Some (Busy a.0 a.1)
busy_of a b e = ap (λ (q : Pair). Some (Busy q.0 q.1)) (sym e)

pub returns-then-self-clause-refused : goal.returns-then-self-clause-refused
returns-then-self-clause-refused g c =
    let m : KvMemory = record { slots = c.self.inside.slots.items; drafts = c.self.inside.drafts.items; stopped = c.self.inside.stopped } in
    let p : Pair = (number_of c.args.t, c.args.e.value) in
    rw (← c.self.view_is) (refused_by m p c.args.key true (has_slot m p) _ _ _ c.if-self.true refl refl refl refl)

pub returns-then-is_some-clause-refused : goal.returns-then-is_some-clause-refused
returns-then-is_some-clause-refused g c =
    let m : KvMemory = record { slots = c.self.inside.slots.items; drafts = c.self.inside.drafts.items; stopped = c.self.inside.stopped } in
    let p : Pair = (number_of c.args.t, c.args.e.value) in
    let there : has_slot m p ≡ true = slot_there (is_record_of p) m.slots c.slot_of.result (c.slot_of.ensures ∙ ap (λ (l : Slots). position (on_open (is_record_of p)) l) c.deref.ensures.value) (sym c.is_some.ensures ∙ c.if-is_some.true) in
    rw (← c.self.view_is) (refused_by m p c.args.key false true _ _ _ c.if-self.false there refl refl refl)

pub returns-in-Some-clause-refused : goal.returns-in-Some-clause-refused
returns-in-Some-clause-refused g c =
    let m : KvMemory = record { slots = c.self.inside.slots.items; drafts = c.self.inside.drafts.items; stopped = c.self.inside.stopped } in
    let p : Pair = (number_of c.args.t, c.args.e.value) in
    let none : has_slot m p ≡ false = slot_none (is_record_of p) m.slots c.slot_of.result (c.slot_of.ensures ∙ ap (λ (l : Slots). position (on_open (is_record_of p)) l) c.deref.ensures.value) (sym c.is_some.ensures ∙ c.if-is_some.false) in
    let found = some_record (find (is_busy_record p c.args.key) (open_records m.slots)) (number_of c.in-Some.t, c.in-Some.e.value)
    (c.in-Some.ensures ∙ ap (λ (l : Slots). option_map pair_of_record (find (is_busy_record p c.args.key) (open_records l))) c.deref-2.ensures.value) in
    rw (← c.self.view_is) (refused_by m p c.args.key false false _ _ _ c.if-self.false none refl found.1 refl ∙ busy_of (number_of c.in-Some.t, c.in-Some.e.value) (pair_of_record found.0) found.2)

pub returns-in-Some-busy_draft-clause-refused : goal.returns-in-Some-busy_draft-clause-refused
returns-in-Some-busy_draft-clause-refused g c =
    let m : KvMemory = record { slots = c.self.inside.slots.items; drafts = c.self.inside.drafts.items; stopped = c.self.inside.stopped } in
    let p : Pair = (number_of c.args.t, c.args.e.value) in
    let none : has_slot m p ≡ false = slot_none (is_record_of p) m.slots c.slot_of.result (c.slot_of.ensures ∙ ap (λ (l : Slots). position (on_open (is_record_of p)) l) c.deref.ensures.value) (sym c.is_some.ensures ∙ c.if-is_some.false) in
    let no_slot : find (is_busy_record p c.args.key) (open_records m.slots) ≡ None =
    no_record (find (is_busy_record p c.args.key) (open_records m.slots)) (c.in_default.ensures ∙ ap (λ (l : Slots). option_map pair_of_record (find (is_busy_record p c.args.key) (open_records l))) c.deref-2.ensures.value) in
    let found = some_draft (find (is_busy_draft p c.args.key) m.drafts) (number_of c.in-Some-busy_draft.t, c.in-Some-busy_draft.e.value)
    (c.in-Some-busy_draft.ensures ∙ ap (λ (l : List KvDraft). option_map pair_of_draft (find (is_busy_draft p c.args.key) l)) c.deref-3.ensures.value) in
    rw (← c.self.view_is) (refused_by m p c.args.key false false _ _ _ c.if-self.false none refl no_slot found.1 ∙ busy_of (number_of c.in-Some-busy_draft.t, c.in-Some-busy_draft.e.value) (pair_of_draft found.0) found.2)

pub returns-then-not-takes-clause-refused : goal.returns-then-not-takes-clause-refused
returns-then-not-takes-clause-refused g c =
    let m : KvMemory = record { slots = c.self.inside.slots.items; drafts = c.self.inside.drafts.items; stopped = c.self.inside.stopped } in
    let p : Pair = (number_of c.args.t, c.args.e.value) in
    let none : has_slot m p ≡ false = slot_none (is_record_of p) m.slots c.slot_of.result (c.slot_of.ensures ∙ ap (λ (l : Slots). position (on_open (is_record_of p)) l) c.deref.ensures.value) (sym c.is_some.ensures ∙ c.if-is_some.false) in
    let no_slot : find (is_busy_record p c.args.key) (open_records m.slots) ≡ None =
    no_record (find (is_busy_record p c.args.key) (open_records m.slots)) (c.in_default.ensures ∙ ap (λ (l : Slots). option_map pair_of_record (find (is_busy_record p c.args.key) (open_records l))) c.deref-2.ensures.value) in
    let no_other : find (is_busy_draft p c.args.key) m.drafts ≡ None =
    no_draft_busy (find (is_busy_draft p c.args.key) m.drafts) (c.in_default-busy_draft.ensures ∙ ap (λ (l : List KvDraft). option_map pair_of_draft (find (is_busy_draft p c.args.key) l)) c.deref-3.ensures.value) in
    let d = c.index.result.now in
    let draft : draft_of m p ≡ d.writes = ap writes_of (find_draft p m.drafts c.in-Some-draft_at.i d (is_draft_at p m.drafts c.in-Some-draft_at.i d (sym (sym c.in-Some-draft_at.is ∙ c.draft_at.ensures ∙ ap (λ (l : List KvDraft). position (is_draft_of p) l) c.deref-4.ensures.value)) c.index.ensures)).0 in
    let takes = ap (λ (ws : List (ℕ × ℕ)). wrote_key c.args.key ws || nat_lt (length ws) 40) draft ∙ sym c.takes.ensures ∙ c.if-not-takes.true in
    rw (← c.self.view_is) (refused_by m p c.args.key false false false None None c.if-self.false none takes no_slot no_other)

pub returns-else-not-takes-clause-ok : goal.returns-else-not-takes-clause-ok
returns-else-not-takes-clause-ok g c =
    let m : KvMemory = record { slots = c.self.inside.slots.items; drafts = c.self.inside.drafts.items; stopped = c.self.inside.stopped } in
    let p : Pair = (number_of c.args.t, c.args.e.value) in
    let none : has_slot m p ≡ false = slot_none (is_record_of p) m.slots c.slot_of.result (c.slot_of.ensures ∙ ap (λ (l : Slots). position (on_open (is_record_of p)) l) c.deref.ensures.value) (sym c.is_some.ensures ∙ c.if-is_some.false) in
    let no_slot : find (is_busy_record p c.args.key) (open_records m.slots) ≡ None =
    no_record (find (is_busy_record p c.args.key) (open_records m.slots)) (c.in_default.ensures ∙ ap (λ (l : Slots). option_map pair_of_record (find (is_busy_record p c.args.key) (open_records l))) c.deref-2.ensures.value) in
    let no_other : find (is_busy_draft p c.args.key) m.drafts ≡ None =
    no_draft_busy (find (is_busy_draft p c.args.key) m.drafts) (c.in_default-busy_draft.ensures ∙ ap (λ (l : List KvDraft). option_map pair_of_draft (find (is_busy_draft p c.args.key) l)) c.deref-3.ensures.value) in
    let d = c.index.result.now in
    let draft : draft_of m p ≡ d.writes = ap writes_of (find_draft p m.drafts c.in-Some-draft_at.i d (is_draft_at p m.drafts c.in-Some-draft_at.i d (sym (sym c.in-Some-draft_at.is ∙ c.draft_at.ensures ∙ ap (λ (l : List KvDraft). position (is_draft_of p) l) c.deref-4.ensures.value)) c.index.ensures)).0 in
    let takes = ap (λ (ws : List (ℕ × ℕ)). wrote_key c.args.key ws || nat_lt (length ws) 40) draft ∙ sym c.takes.ensures ∙ c.if-not-takes.false in
    rw (← c.self.view_is) (refused_by m p c.args.key false false true None None c.if-self.false none takes no_slot no_other)

pub returns-else-not-takes-clause-put : goal.returns-else-not-takes-clause-put
returns-else-not-takes-clause-put g c =
    let m : KvMemory = record { slots = c.self.inside.slots.items; drafts = c.self.inside.drafts.items; stopped = c.self.inside.stopped } in
    let p : Pair = (number_of c.args.t, c.args.e.value) in
    let d = c.index_mut.result.now in
    let i = c.in-Some-draft_at.i in
    let left : set m.drafts i c.put.new.self ≡ with_draft p c.args.key c.args.value m.drafts =
    ap (λ (x : KvDraft). set m.drafts i x) c.put.ensures ∙ sym (put_draft p c.args.key c.args.value m.drafts i d (is_draft_at p m.drafts i d (sym (sym c.in-Some-draft_at.is ∙ c.draft_at.ensures ∙ ap (λ (l : List KvDraft). position (is_draft_of p) l) c.deref-4.ensures.value)) c.index_mut.ensures.value)) in
    rw (← c.self.view_is, ← left) refl

-- no draft takes any key
none_takes : (k : ℕ) (o : Option KvDraft) → o ≡ None → (wrote_key k (writes_of o) || nat_lt (length (writes_of o)) 40) ≡ true
none_takes k o e = ap (λ (x : Option KvDraft). wrote_key k (writes_of x) || nat_lt (length (writes_of x)) 40) e

pub returns-after-push-clause-ok : goal.returns-after-push-clause-ok
returns-after-push-clause-ok g c =
    let m : KvMemory = record { slots = c.self.inside.slots.items; drafts = c.self.inside.drafts.items; stopped = c.self.inside.stopped } in
    let p : Pair = (number_of c.args.t, c.args.e.value) in
    let none : has_slot m p ≡ false = slot_none (is_record_of p) m.slots c.slot_of.result (c.slot_of.ensures ∙ ap (λ (l : Slots). position (on_open (is_record_of p)) l) c.deref.ensures.value) (sym c.is_some.ensures ∙ c.if-is_some.false) in
    let no_slot : find (is_busy_record p c.args.key) (open_records m.slots) ≡ None =
    no_record (find (is_busy_record p c.args.key) (open_records m.slots)) (c.in_default.ensures ∙ ap (λ (l : Slots). option_map pair_of_record (find (is_busy_record p c.args.key) (open_records l))) c.deref-2.ensures.value) in
    let no_other : find (is_busy_draft p c.args.key) m.drafts ≡ None =
    no_draft_busy (find (is_busy_draft p c.args.key) m.drafts) (c.in_default-busy_draft.ensures ∙ ap (λ (l : List KvDraft). option_map pair_of_draft (find (is_busy_draft p c.args.key) l)) c.deref-3.ensures.value) in
    let nobody = none_draft p m.drafts c.args.key c.args.value (sym (sym c.in-None.is ∙ c.draft_at.ensures ∙ ap (λ (l : List KvDraft). position (is_draft_of p) l) c.deref-4.ensures.value)) in
    rw (← c.self.view_is) (on_ok c.match-push.result _ (refused_by m p c.args.key false false true None None c.if-self.false none (none_takes c.args.key (find (is_draft_of p) m.drafts) nobody.0) no_slot no_other))

pub returns-after-push-clause-refused : goal.returns-after-push-clause-refused
returns-after-push-clause-refused g c =
    let m : KvMemory = record { slots = c.self.inside.slots.items; drafts = c.self.inside.drafts.items; stopped = c.self.inside.stopped } in
    let p : Pair = (number_of c.args.t, c.args.e.value) in
    let none : has_slot m p ≡ false = slot_none (is_record_of p) m.slots c.slot_of.result (c.slot_of.ensures ∙ ap (λ (l : Slots). position (on_open (is_record_of p)) l) c.deref.ensures.value) (sym c.is_some.ensures ∙ c.if-is_some.false) in
    let no_slot : find (is_busy_record p c.args.key) (open_records m.slots) ≡ None =
    no_record (find (is_busy_record p c.args.key) (open_records m.slots)) (c.in_default.ensures ∙ ap (λ (l : Slots). option_map pair_of_record (find (is_busy_record p c.args.key) (open_records l))) c.deref-2.ensures.value) in
    let no_other : find (is_busy_draft p c.args.key) m.drafts ≡ None =
    no_draft_busy (find (is_busy_draft p c.args.key) m.drafts) (c.in_default-busy_draft.ensures ∙ ap (λ (l : List KvDraft). option_map pair_of_draft (find (is_busy_draft p c.args.key) l)) c.deref-3.ensures.value) in
    let nobody = none_draft p m.drafts c.args.key c.args.value (sym (sym c.in-None.is ∙ c.draft_at.ensures ∙ ap (λ (l : List KvDraft). position (is_draft_of p) l) c.deref-4.ensures.value)) in
    let takes = none_takes c.args.key (find (is_draft_of p) m.drafts) nobody.0 in
    elim c.match-push.branch [
      | in-Ok w ↦ rw w.result-is tt
      | in-Err w ↦ rw (← c.self.view_is, w.result-is) (refused_by m p c.args.key false false true None None c.if-self.false none takes no_slot no_other)
    ]

pub returns-after-push-clause-put : goal.returns-after-push-clause-put
returns-after-push-clause-put g c =
    let m : KvMemory = record { slots = c.self.inside.slots.items; drafts = c.self.inside.drafts.items; stopped = c.self.inside.stopped } in
    let p : Pair = (number_of c.args.t, c.args.e.value) in
    let nobody = none_draft p m.drafts c.args.key c.args.value (sym (sym c.in-None.is ∙ c.draft_at.ensures ∙ ap (λ (l : List KvDraft). position (is_draft_of p) l) c.deref-4.ensures.value)) in
    elim c.match-push.branch [
      | in-Ok w ↦
          let ok = w.in-Ok.is in
          let left : c.push.new.self.items ≡ with_draft p c.args.key c.args.value m.drafts =
          c.push.ensures.items ∙ (rw ok (ap (λ (d : KvDraft). m.drafts ++ d ∷ []) c.new.ensures)) ∙ sym nobody.3 in
          rw (← c.self.view_is, w.result-is, ← left) refl
      | in-Err w ↦ rw w.result-is tt
    ]
