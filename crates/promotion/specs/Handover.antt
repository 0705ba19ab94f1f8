-- The handover of a transaction to the coordinator, and where the right to decide stands.
use Rattle.std.specs.Prelude.{◌==◌, Bool, true, false, ◌&&◌, not, Option, Some, None, is_some, if◌then◌else◌}
use Rattle.dtx_values.specs.declared.number.EnlNo.{EnlNo}
use Rattle.dtx_values.specs.declared.words.Cause.{Cause}
use Rattle.tm_proxy.specs.declared.news.ProxyNews.{ProxyNews}
use Rattle.tm_proxy.specs.declared.news.ProxyNews.TheVariants.{Begun, Created, Enlisted}
use Rattle.promotion.specs.declared.handing.HandoverAct.{HandoverAct}
use Rattle.promotion.specs.declared.handing.HandoverAct.TheVariants.{Nothing, SendVoter, SendEnlist, Over}
use Rattle.promotion.specs.declared.handing.Right.{Right}
use Rattle.promotion.specs.declared.handing.Right.TheVariants.{Local, Owner, InFlight, Coordinator, Spent}

pub record Promotion : Type 0 where
  -- why it was started; none before
  pub cause : Option Cause
  -- the enlistment that it hands over; none where none stood when it was started
  pub stands : Option EnlNo
  pub over : Bool
  pub failed : Bool

-- none was started
abbrev pub unstarted : Promotion
unstarted = record { cause = None; stands = None; over = false; failed = false }

-- one that was just started
abbrev pub after_start : Cause → Option EnlNo → Promotion
after_start c e = record { cause = Some c; stands = e; over = false; failed = false }

-- it was started, isn't over and didn't fail
abbrev pub is_under_way : Promotion → Bool
is_under_way p = is_some p.cause && not p.over && not p.failed

-- what a handover of this enlistment does once the local side hears this: BEGUN, CREATED, and ENLISTED of that enlistment
abbrev pub answer_to : Option EnlNo → ProxyNews → HandoverAct
answer_to e (Begun u) = SendVoter
answer_to (Some e) Created = SendEnlist e
answer_to None Created = Over
answer_to (Some e) (Enlisted f) = if e.value == f.value then Over else Nothing
answer_to _ _ = Nothing

-- what the handover does once the local side hears this: while it is under way its answer, else nothing
abbrev pub next_act : Promotion → ProxyNews → HandoverAct
next_act p n = if is_under_way p then answer_to p.stands n else Nothing

-- the act ends the handover
abbrev pub is_last : HandoverAct → Bool
is_last Over = true
is_last _ = false

-- what becomes of it at its end
abbrev pub after_end : Promotion → Promotion
after_end p = record { cause = p.cause; stands = p.stands; over = true; failed = p.failed }

-- what becomes of it once the local side hears this: the last act ends it
abbrev pub after_news : Promotion → ProxyNews → Promotion
after_news p n = if is_last (next_act p n) then after_end p else p

-- what becomes of it where it fails
abbrev pub after_failure : Promotion → Promotion
after_failure p = record { cause = p.cause; stands = p.stands; over = p.over; failed = true }

-- where the right to decide stands: nowhere once it is decided; with the owner once it was handed over; with the coordinator once COMMIT was sent; on
-- its way while the handover is under way; else at the local side
abbrev pub place_of : Bool → Bool → Bool → Promotion → Right
place_of handed commit_sent decided p =
    if decided then Spent else if handed then Owner else if commit_sent then Coordinator else if is_under_way p then InFlight else Local
