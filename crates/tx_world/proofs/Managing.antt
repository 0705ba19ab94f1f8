-- What it is answered that a manager has recovered.
use Rattle.std.proofs.Common.{ℕ, ◌≡◌, ◌≢◌, ◌∙◌, Bool, true, false, not, Option, Some, None, ap, if◌then◌else◌}
use Rattle.dtx_values.specs.declared.call.Call.TheVariants.{Recovered}
use Rattle.dtx_values.specs.TxIds.{number_of}
use Rattle.dtx_values.specs.declared.tx_id.TxId.{TxId}
use Rattle.dtx_values.specs.declared.entry.Answer.{Answer}
use Rattle.dtx_values.specs.declared.entry.Answer.TheVariants.{Fine, NoSuch, Over, Stopped}
use Rattle.dtx_values.specs.declared.number.RmNo.{RmNo}
use Rattle.dtx_values.specs.declared.number.TxNo.{TxNo}
use Rattle.dtx_values.specs.Ends.{is_in}
use Rattle.dtx_model.specs.declared.branch.Branch.{Branch}
use Rattle.dtx_model.specs.Answers.{if_begun}
use Rattle.dtx_model.specs.Facts.{has_facts}
use Rattle.dtx_model.specs.World.{World, answer_at, core, half, unless_connected}
use Rattle.local_half.specs.Half.{Known}
use Rattle.coordinator_core.specs.Kept.{Kept as CoreKept}
use Rattle.tx_world.specs.Kept.{Kept}
use Rattle.world_parts.specs.Managers.{first_link, has_accepted, recovery_answer}
use Rattle.tx_world.proofs.Onward.{core_is, half_is}

-- what a `recovered` is answered
pub recovered_is : (t : TxId) (w : World) (h : Known) (k : CoreKept) (u : TxNo) (r : RmNo) (m : ℕ) (a : Answer) → Kept t w h k → a ≡ if_begun h.half.seen.limit (recovery_answer h.half.seen k.state w.past r)
    → a ≡ answer_at (number_of t) w (Recovered u r) m
unfolding answer_at
recovered_is t w h k u r m a kept answered =
    answered
    ∙ (λ i. if_begun (half_is t w h k kept i).seen.limit (recovery_answer (half_is t w h k kept i).seen (core_is t w h k kept i) w.past r))

refused : (l : Option ℕ) (r : RmNo) (accepted over stopped : Bool) (o : Option Branch) (a : Answer)
    → a ≡ if_begun l (if not accepted then NoSuch else if over then Over r else unless_connected o (if stopped then Stopped else Fine)) → a ≢ Fine → has_facts a ≡ false
refused None r accepted over stopped o a e d = ap has_facts e
refused (Some l) r false over stopped o a e d = ap has_facts e
refused (Some l) r true true stopped o a e d = ap has_facts e
refused (Some l) r true false stopped (Some b) a e d = ap has_facts e
refused (Some l) r true false true None a e d = ap has_facts e
refused (Some l) r true false false None a e d = absurd (d e)

pub recovered_alone : (t : ℕ) (w : World) (u : TxNo) (r : RmNo) (m : ℕ) (a : Answer) → a ≡ answer_at t w (Recovered u r) m → a ≢ Fine → has_facts a ≡ false
unfolding answer_at
recovered_alone t w u r m a e d =
    refused (half w).seen.limit r (has_accepted (half w).seen r) (is_in r.value (core w).recovered) (core w).stopped (first_link (half w).seen w.past r) a e d
