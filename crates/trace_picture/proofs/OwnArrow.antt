-- What is got is drawn from the row in which it was sent, and no other message from there: in the picture of a transaction whose messages cross as its connections carry them.
use Rattle.std.proofs.Common.{◌≡◌, ◌⊎◌, ℕ, ◌==◌, ◌&&◌, ◌||◌, Bool, true, false, List, [], ◌∷◌, ◌++◌, Some, length, refl, ap, subst, sym, ◌∙◌, arith, inl, inr}
use Rattle.std.proofs.lemmas.Bool.{both_ways, cases_Bool}
use Rattle.dtx_values.specs.declared.entry.Entry.{Entry}
use Rattle.dtx_values.specs.declared.entry.Entry.TheVariants.{Got}
use Rattle.dtx_values.specs.declared.message.Conn.{Conn}
use Rattle.dtx_values.specs.declared.message.Dir.{Dir}
use Rattle.dtx_values.specs.declared.message.Message.{Message}
use Rattle.dtx_values.specs.declared.script.Line.{Line}
use Rattle.dtx_values.specs.declared.trace.Place.TheVariants.{Context, Log, Transaction}
use Rattle.dtx_model.specs.AtLog.{at_log}
use Rattle.dtx_model.specs.Caused.{is_begin_sent}
use Rattle.dtx_model.specs.Traces.{Placed, history}
use Rattle.dtx_model.specs.Wires.{MayCross, WireRun, in_transit}
use Rattle.dtx_model.specs.Words.{has}
use Rattle.dtx_model.proofs.Connections.{same_self, same_way}
use Rattle.trace_picture.specs.Crossings.{got_since, origin, sent_since}
use Rattle.trace_picture.specs.Marks.{got_mark}
use Rattle.trace_picture.specs.OwnSent.{HasOwnArrow, is_message}
use Rattle.trace_picture.specs.Rows.{rows}
use Rattle.trace_picture.proofs.OwnRows.{Above, AllShown, Ascends, IsFirst, above_plain, above_step, came_from, is_sent_there, shown_plain, shown_step}
use Rattle.trace_picture.proofs.OwnSent.{Waits, beside, drop_at, first_way, step}

-- these rows show this history: its entries in order, and entries of no message among them
abbrev Shows : List Entry → List Entry → Type 0
Shows [] past = past ≡ []
Shows (x ∷ shown) past = ((is_message x ≡ false) × Shows shown past) ⊎ ((before : List Entry) × (past ≡ x ∷ before) × Shows shown before)

-- what is got was sent in the first row of what is still to come
is_first : (x : Entry) (shown past : List Entry) → MayCross past x → ((c : Conn) (d : Dir) → Waits c d shown past) → IsFirst x shown
is_first (Got e r m) shown past k w =
    let own = w e r in
    let first = first_way e r shown m own.on_way (in_transit e r past) own.messages k in
    (first.0, first.1 ++ own.rest, own.split ∙ ap (λ (l : List ℕ). l ++ own.rest) first.2, first.3)
is_first _ shown past k w = tt

abbrev Facts : List Entry → List Entry → Type 0
Facts shown past = ((c : Conn) (d : Dir) → Waits c d shown past) × ((c : Conn) (d : Dir) → Above c d shown) × AllShown shown

start : Facts [] []
start = (
  λ c d. record { on_way = []; rest = []; split = refl; few = omega arith; messages = refl; none_lost = λ live. refl },
  λ c d. record { low = 0; ascends = omega arith; below = λ q k s. absurd (both_ways false refl k) },
  λ q k. absurd (both_ways false refl k),
)

plainly : (x : Entry) (shown past : List Entry) → is_message x ≡ false → Facts shown past → Facts (x ∷ shown) past
plainly x shown past k f = (
  λ c d. beside c d x shown past k (f.0 c d),
  λ c d. above_plain c d x shown k f.2 (f.1 c d),
  shown_plain x shown k f.2,
)

onward : (x : Entry) (shown past : List Entry) → MayCross past x → Facts shown past → Facts (x ∷ shown) (x ∷ past)
onward x shown past k f =
    let first = is_first x shown past k f.0 in (
      λ c d. step c d x shown past k (f.0 c d),
      λ c d. above_step c d x shown (f.0 c d).few first f.2 (f.1 c d),
      shown_step x shown first f.2,
    )

facts : (shown past : List Entry) → Shows shown past → WireRun past → Facts shown past
facts [] past none run = subst (λ (p : List Entry). Facts [] p) (sym none) start
facts (x ∷ shown) past k run = elim k [
  | inl plain ↦ plainly x shown past plain.0 (facts shown past plain.1 run)
  | inr own ↦
      let crossed : WireRun (x ∷ own.0) = subst WireRun own.1 run in
      subst (λ (p : List Entry). Facts (x ∷ shown) p) (sym own.1) (onward x shown own.0 crossed.0 (facts shown own.0 own.2 crossed.1))
]

-- a picture's rows show the transaction's history
rows_show : (t : ℕ) (T : List Placed) → has is_message (at_log T) ≡ false → Shows (rows t T).entries (history t T)
rows_show t [] k = refl
rows_show t ((Transaction u, x) ∷ past) k = elim (cases_Bool (t == u.value)) [
  | inl own ↦ rw own (inr (history t past, refl, rows_show t past k))
  | inr other ↦ rw other (rows_show t past k)
]
rows_show t ((Context a, x) ∷ past) k = rows_show t past k
rows_show t ((Log, x) ∷ past) k =
    let parts = none_of (is_message x) (has is_message (at_log past)) k in
    elim (cases_Bool (has is_begin_sent (rows t past).entries)) [
      | inl sent ↦ rw sent (inl (parts.0, rows_show t past parts.1))
      | inr before ↦ rw before (rows_show t past parts.1)
    ]
  where
    none_of : (a b : Bool) → (a || b) ≡ false → (a ≡ false) × (b ≡ false)
    none_of true b e = absurd cc
    none_of false b e = (refl, e)

pub own_arrow : (s : List Line) (came : List ℕ) (t : ℕ) (T : List Placed) (c : Conn) (d : Dir) (m : Message) → WireRun (Got c d m ∷ history t T) → has is_message (at_log T) ≡ false → HasOwnArrow s came (rows t T).entries c d m
own_arrow s came t T c d m run none =
    let shown : List Entry = (rows t T).entries in
    let f = facts shown (history t T) (rows_show t T none) run.1 in
    let first = is_first (Got c d m) shown (history t T) run.0 f.0 in
    let from : origin c d shown ≡ Some first.0 = drop_at (got_since c d shown) (sent_since c d shown) first.1 first.0 first.2 in
    record {
      row = first.0;
      sent = first.3;
      alone = alone_there shown first (f.1 c d);
      arrow = ap (λ o. Some (got_mark (length shown) c d m o)) from;
    }
  where
    alone_there : (shown : List Entry) (first : IsFirst (Got c d m) shown) → Above c d shown → came_from first.0 shown ≡ false
    alone_there shown first a = elim (cases_Bool (came_from first.0 shown)) [
      | inr other ↦ other
      | inl came_before ↦
          let from : Ascends a.low (first.0 ∷ first.1) (length shown) = subst (λ (ws : List ℕ). Ascends a.low ws (length shown)) first.2 a.ascends in
          absurd (omega (arith, from.0, a.below first.0 came_before (ap (is_sent_there c d) first.3 ∙ (λ j. same_self c j && same_way d j))))
    ]
