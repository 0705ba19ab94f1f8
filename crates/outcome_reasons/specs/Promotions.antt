-- Why a promotion began.
use Rattle.std.specs.Prelude.{ℕ, Bool, true, false, List, [], ◌∷◌, Option, Some, None, slice_get}
use Rattle.dtx_values.specs.declared.entry.Entry.{Entry}
use Rattle.dtx_values.specs.declared.entry.Entry.TheVariants.{Promoting}
use Rattle.dtx_values.specs.declared.number.EnlNo.{EnlNo}
use Rattle.dtx_values.specs.declared.script.Body.{Body}
use Rattle.dtx_values.specs.declared.script.Body.TheVariants.{Durable}
use Rattle.dtx_values.specs.declared.script.Line.{Line}
use Rattle.dtx_values.specs.declared.words.Cause.{Cause}
use Rattle.dtx_values.specs.declared.words.Cause.TheVariants.{Beside, Marshal, Second, Two}
use Rattle.dtx_values.specs.declared.words.Class.{Class}
use Rattle.dtx_model.specs.Entries.{is_promoted}
use Rattle.dtx_model.specs.Outcome.{durables}
use Rattle.dtx_model.specs.Words.{has, kth}
use Rattle.outcome_reasons.specs.declared.said.Moment.{Moment}
use Rattle.outcome_reasons.specs.declared.said.PromotionReason.{PromotionReason}
use Rattle.outcome_reasons.specs.declared.said.PromotionReason.TheVariants.{Beside as IsBeside, Identifier, Second as IsSecond, Two as HasTwo}
use Rattle.outcome_reasons.specs.declared.said.Why.{Why}
use Rattle.outcome_reasons.specs.declared.said.Why.TheVariants.{Promoted, PromotionFailed}
use Rattle.outcome_reasons.specs.First.{first_of}
use Rattle.outcome_reasons.specs.Moments.{caller, line_in, moment}

-- the durable that the command enlists
abbrev pub durable_by : Body → Option EnlNo
durable_by (Durable t e r s) = Some e
durable_by _ = None

abbrev pub enlists : Option Line → Option EnlNo
enlists (Some l) = durable_by l.body
enlists None = None

abbrev pub enlistment_in : Option (EnlNo × Class) → Option EnlNo
enlistment_in (Some x) = Some x.0
enlistment_in None = None

-- the reason, by the durable that the line of the newest call enlists, and by the durable or promotable that stood already
abbrev pub reason_by : Cause → Option EnlNo → Option EnlNo → PromotionReason
reason_by Marshal e f = Identifier
reason_by Second e f = IsSecond e f
reason_by Beside e f = IsBeside e f
reason_by Two e f = HasTwo e

-- the reason of a promotion that begins after this history, and its moment
abbrev pub promoting : List Line → List ℕ → List Entry → Entry → Option (PromotionReason × Moment)
promoting s ns past (Promoting c) = Some (reason_by c (enlists (kth s (line_in (caller past)))) (enlistment_in (slice_get (durables past) 0)), moment ns past (Promoting c))
promoting s ns past _ = None

abbrev pub promotion_done : Bool → PromotionReason × Moment → Why
promotion_done true x = Promoted x.0 x.1
promotion_done false x = PromotionFailed x.0 x.1

abbrev pub promotion_in : Bool → Option (ℕ × (PromotionReason × Moment)) → List Why
promotion_in done (Some x) = promotion_done done x.1 ∷ []
promotion_in done None = []

-- why the transaction was promoted, where a promotion began in it
abbrev pub promotion : List Line → List ℕ → List Entry → List Why
promotion s ns h = promotion_in (has is_promoted h) (first_of (promoting s ns) h)
