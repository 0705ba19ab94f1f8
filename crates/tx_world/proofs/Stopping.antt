-- A stop of the log, where it hits a transaction.
use Rattle.std.proofs.Common.{◌≡◌, ℕ, Bool, true, false, ◌&&◌, not, List, ◌∷◌, ap, sym, ◌∙◌, subst, nat_le}
use Rattle.dtx_values.specs.declared.entry.Entry.{Entry}
use Rattle.dtx_values.specs.TxIds.{number_of}
use Rattle.dtx_values.specs.declared.tx_id.TxId.{TxId}
use Rattle.dtx_values.specs.declared.entry.Entry.TheVariants.{Stopped}
use Rattle.dtx_model.specs.Words.{has, past_of}
use Rattle.dtx_model.specs.Coordinated.{Coordinated, follow}
use Rattle.dtx_model.specs.World.{World, core}
use Rattle.dtx_model.specs.Steps.{Stops, after, block_at}
use Rattle.dtx_model.specs.Caused.{is_begin_sent}
use Rattle.dtx_model.specs.declared.waiting.EnteredCall.{EnteredCall}
use Rattle.dtx_model.proofs.Bools.{and_left, and_right, not_true}
use Rattle.dtx_model.proofs.Reading.{has-past}
use Rattle.local_half.specs.Half.{Known}
use Rattle.coordinator_core.specs.Kept.{Kept as CoreKept}
use Rattle.tx_world.specs.Kept.{Kept}
use Rattle.tx_world.proofs.Onward.{core_is, stop_kept}

-- whether a stop hits it, by its entries and its coordinator
pub hit_is : (t : TxId) (w : World) (h : Known) (k : CoreKept) (xs : List Entry) (own life : ℕ) → Kept t w h k → past_of xs ≡ w.past
    → (has is_begin_sent xs && not k.state.stopped && nat_le own life) ≡ (has is_begin_sent w.past && not (core w).stopped && nat_le own life)
hit_is t w h k xs own life kept past =
    ap (λ b. b && not k.state.stopped && nat_le own life) (sym (has-past is_begin_sent xs) ∙ ap (has is_begin_sent) past)
    ∙ ap (λ (s : Coordinated). has is_begin_sent w.past && not s.stopped && nat_le own life) (core_is t w h k kept)

-- it hits a coordinator that runs
pub hit_runs : (t : TxId) (w : World) (h : Known) (k : CoreKept) (own life : ℕ) → Kept t w h k → (has is_begin_sent w.past && not (core w).stopped && nat_le own life) ≡ true → k.state.stopped ≡ false
hit_runs t w h k own life kept hit =
    ap (λ (s : Coordinated). s.stopped) (core_is t w h k kept)
    ∙ not_true (core w).stopped (and_right (has is_begin_sent w.past) (not (core w).stopped) (and_left (has is_begin_sent w.past && not (core w).stopped) (nat_le own life) hit))

-- what a stop leaves, where it hits
pub hit_kept : (t : TxId) (w : World) (h : Known) (k j : CoreKept) (calls : List EnteredCall) (n : List Entry) (late : Bool) → Kept t w h k → (has is_begin_sent w.past && not (core w).stopped && late) ≡ true
    → calls ≡ w.calls → n ≡ Stopped ∷ w.past → j.transaction ≡ k.transaction → j.state ≡ follow k.state Stopped
    → Kept t (record { calls = calls; past = n }) h j × (record { calls = calls; past = n } ≡ after (number_of t) w Stops)
unfolding after block_at
hit_kept t w h k j calls n late kept hit same past transaction state =
    let both = and_left (has is_begin_sent w.past && not (core w).stopped) late hit in
    let begun = and_left (has is_begin_sent w.past) (not (core w).stopped) both in
    let runs = not_true (core w).stopped (and_right (has is_begin_sent w.past) (not (core w).stopped) both) in
    let world : record { calls = calls; past = n } ≡ after (number_of t) w Stops = λ i. record { calls = same i; past = past i } in (
      subst (λ (x : World). Kept t x h j) (sym world)
          (stop_kept t w h k j kept begun (ap (λ (s : Coordinated). s.stopped) (core_is t w h k kept) ∙ runs) (λ i. record { transaction = transaction i; state = state i })),
      world,
    )
