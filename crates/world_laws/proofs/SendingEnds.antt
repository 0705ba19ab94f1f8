-- What stands at the end of each block: each message might be sent where it was, the connections are opened as they should be, and a promotion that failed decided. Which
-- blocks and entries keep it.
use Rattle.std.proofs.Common.{◌≡◌, ◌⊎◌, ℕ, Bool, true, false, ◌&&◌, ◌||◌, List, [], ◌∷◌, refl, sym, ◌∙◌}
use Rattle.std.specs.Prelude.{not, if◌then◌else◌}
use Rattle.std.proofs.lemmas.Bool.{or_left}
use Rattle.dtx_values.specs.declared.entry.Entry.{Entry}
use Rattle.dtx_values.specs.declared.entry.Entry.TheVariants.{Enlisted, Promoted, Promoting, Sent}
use Rattle.dtx_values.specs.declared.message.Conn.{Conn}
use Rattle.dtx_values.specs.declared.message.Conn.TheVariants.{Begin, Voter, Enl, Again}
use Rattle.dtx_values.specs.declared.message.Dir.TheVariants.{Up}
use Rattle.dtx_values.specs.declared.message.Info.{Info}
use Rattle.dtx_values.specs.declared.message.Message.{Message}
use Rattle.dtx_values.specs.declared.message.Message.TheVariants.{BeginBegin, VoterVoter, EnlistEnlist, ReenlistReenlist}
use Rattle.dtx_values.specs.declared.number.EnlNo.{EnlNo}
use Rattle.dtx_values.specs.declared.words.Cause.{Cause}
use Rattle.dtx_values.specs.declared.words.Class.TheVariants.{Promotable}
use Rattle.dtx_values.specs.Lines.{has_line, is_opening}
use Rattle.dtx_values.specs.RecoveryInfo.{is_id}
use Rattle.dtx_model.specs.Entries.{is_decision, is_promoted}
use Rattle.dtx_model.specs.Frames.{is_valid}
use Rattle.dtx_model.specs.Half.{is_handed}
use Rattle.dtx_model.specs.Observed.{branches, handover, is_branch, is_promote_reply, is_promotion_failed}
use Rattle.dtx_model.specs.Promotes.{is_begun_got, is_created_got, is_promoting}
use Rattle.dtx_model.specs.Wires.{opens, same_connection}
use Rattle.dtx_model.specs.Words.{each, has, onto}
use Rattle.dtx_model.specs.World.{is_linked, was_opened}
use Rattle.dtx_model.proofs.Bools.{and_both, and_left, and_right, not_both, or_case, or_first, or_right, or_second}
use Rattle.dtx_model.proofs.Reading.{has-onto}
use Rattle.dtx_model.proofs.Connections.{same_self}
use Rattle.world_laws.specs.Carried.{are_sendable, is_sendable}
use Rattle.world_laws.proofs.SendingApt.{Apt, block_sendable, can_send, each_apt, is_apt, opened_same}
use Rattle.world_laws.proofs.SendingOpened.{Opened, apt_calm, begin_opened, calm_opened, enlist_opened, is_calm, is_unpromotable, none_opened, over_opened, promotable_opened, start_opened, voter_opened}

no : false ≡ true → ⊥
no e = absurd cc

-- what stands at the end of each block
pub record Ends (h : List Entry) : Type 0 where
  pub sendable : are_sendable h ≡ true
  pub opened : Opened h
  pub failed : has is_promotion_failed h ≡ true → has is_decision h ≡ true

-- before the first step
pub none_ends : Ends []
none_ends = record { sendable = refl; opened = none_opened; failed = λ k. absurd (no k) }

-- A block that opens nothing.
apt_opened : (h es : List Entry) → each (is_apt h) es ≡ true → Opened h → Opened (onto h es)
apt_opened h [] a i = i
apt_opened h (x ∷ es) a i =
    let first = and_left (is_apt h x) (each (is_apt h) es) a in
    apt_opened (x ∷ h) es (each_apt h x es first (and_right (is_apt h x) (each (is_apt h) es) a)) (calm_opened x h (apt_calm h x first) i)

-- such a block keeps it
pub apt_ends : (h es : List Entry) → Apt h es → Ends h → Ends (onto h es)
apt_ends h es a i = record {
  sendable = block_sendable h es a.proof i.sendable;
  opened = apt_opened h es a.proof i.opened;
  failed =
      λ k. has-onto is_decision h es
      ∙ by (has is_promotion_failed es) (has is_promotion_failed h) (has is_decision es) (has is_decision h) a.fails i.failed (sym (has-onto is_promotion_failed h es) ∙ k);
}
  where
    by : (f g d e : Bool) → (d || not f) ≡ true → (g ≡ true → e ≡ true) → (f || g) ≡ true → (d || e) ≡ true
    by f g true e a i k = refl
    by true g false e a i k = absurd (no a)
    by false true false e a i k = i refl
    by false false false e a i k = absurd (no k)

-- an entry by which no promotion fails
failed_more : (x : Entry) (h : List Entry) → is_promotion_failed x ≡ false → (has is_promotion_failed h ≡ true → has is_decision h ≡ true) → has is_promotion_failed (x ∷ h) ≡ true → has is_decision (x ∷ h) ≡ true
failed_more x h n f k = or_right (is_decision x) (has is_decision h) (f (or_case (is_promotion_failed x) (has is_promotion_failed h) (λ a. absurd (not_both (is_promotion_failed x) a n)) (λ a. a) k))

-- so does an entry that may stand there, opens nothing, and by which no promotion fails
pub one_ends : (x : Entry) (h : List Entry) → is_sendable h x ≡ true → is_calm h x ≡ true → is_promotion_failed x ≡ false → Ends h → Ends (x ∷ h)
one_ends x h s c n i = record { sendable = and_both (is_sendable h x) (are_sendable h) s i.sendable; opened = calm_opened x h c i.opened; failed = failed_more x h n i.failed }

-- one of two blocks, by the test between them
pub ends_if : (h : List Entry) (b : Bool) (xs ys : List Entry) → (b ≡ true → Ends (onto h xs)) → (b ≡ false → Ends (onto h ys)) → Ends (onto h (if b then xs else ys))
ends_if h true xs ys p q = p refl
ends_if h false xs ys p q = q refl

-- A connection that was never opened, or of which nothing is left, may be opened.
never_opened : (c : Conn) (h : List Entry) → has (opens c) h ≡ false → was_opened c h ≡ false
never_opened c [] n = refl
never_opened c (x ∷ h) n = opened_same c h x (or_first (opens c x) (has (opens c) h) n) ∙ never_opened c h (or_second (opens c x) (has (opens c) h) n)

unlinked : (c : Conn) (h : List Entry) → has (opens c) h ≡ false → is_linked c h ≡ false
unlinked c h n = by (was_opened c h) _ (never_opened c h n)
  where
    by : (a b : Bool) → a ≡ false → (a && b) ≡ false
    by true b e = absurd cc
    by false b e = refl

opening_sendable : (c : Conn) (m : Message) (h : List Entry) → is_valid m ≡ true → has_line c Up m ≡ true → is_opening c m ≡ true → is_linked c h ≡ false → is_sendable h (Sent c Up m) ≡ true
opening_sendable c m h v l o n = by (is_valid m) (has_line c Up m) (same_connection c c) (is_opening c m) (is_linked c h) (can_send c Up h) v l (same_self c) o n
  where
    by : (v l s o k z : Bool) → v ≡ true → l ≡ true → s ≡ true → o ≡ true → k ≡ false → (v && l && (if s && o then not k else z)) ≡ true
    by true true true true false z a b c d e = refl
    by true true true true true z a b c d e = absurd cc
    by true true true false k z a b c d e = absurd cc
    by true true false o k z a b c d e = absurd cc
    by true false s o k z a b c d e = absurd cc
    by false l s o k z a b c d e = absurd cc

-- BEGIN, for the first time and where a promotion began
pub begin_ends : (h : List Entry) → has (opens Begin) h ≡ false → has is_promoting h ≡ true → ((has is_promote_reply h ≡ true) ⊎ (is_unpromotable h ≡ true)) → Ends h → Ends (Sent Begin Up BeginBegin ∷ h)
begin_ends h n s p i = record {
  sendable = and_both (is_sendable h (Sent Begin Up BeginBegin)) (are_sendable h) (opening_sendable Begin BeginBegin h refl refl refl (unlinked Begin h n)) i.sendable;
  opened = begin_opened h n s p i.opened;
  failed = i.failed;
}

-- VOTER, for the first time and after BEGUN
pub voter_ends : (h : List Entry) (u : ℕ) → is_id u ≡ true → has (opens Voter) h ≡ false → has is_begun_got h ≡ true → Ends h → Ends (Sent Voter Up (VoterVoter u) ∷ h)
voter_ends h u v n b i = record {
  sendable = and_both (is_sendable h (Sent Voter Up (VoterVoter u))) (are_sendable h) (opening_sendable Voter (VoterVoter u) h v refl refl (unlinked Voter h n)) i.sendable;
  opened = voter_opened h u n b i.opened;
  failed = i.failed;
}

-- ENLIST, for the first time and after CREATED
pub enlist_ends : (h : List Entry) (e : EnlNo) (m : Info) → is_id m.id ≡ true → has (opens (Enl e)) h ≡ false → has is_created_got h ≡ true → has is_promoting h ≡ true
    → (has is_promoted h ≡ false → is_handed (handover h) e.value ≡ true) → Ends h → Ends (Sent (Enl e) Up (EnlistEnlist m) ∷ h)
enlist_ends h e m v n c s o i = record {
  sendable = and_both (is_sendable h (Sent (Enl e) Up (EnlistEnlist m))) (are_sendable h) (opening_sendable (Enl e) (EnlistEnlist m) h v refl refl (unlinked (Enl e) h n)) i.sendable;
  opened = enlist_opened h e m n c s o i.opened;
  failed = i.failed;
}

-- REENLIST, where nothing is left of the connection, of one that is at the coordinator
pub again_ends : (h : List Entry) (e : EnlNo) (m : Info) → is_id m.id ≡ true → is_linked (Again e) h ≡ false → has (is_branch e.value) (branches h) ≡ true → Ends h → Ends (Sent (Again e) Up (ReenlistReenlist m) ∷ h)
again_ends h e m v n b i =
    one_ends (Sent (Again e) Up (ReenlistReenlist m)) h (opening_sendable (Again e) (ReenlistReenlist m) h v refl refl n) (or_left (has (is_branch e.value) (branches h)) false b) refl i

-- a promotion begins, for the first time
pub start_ends : (h : List Entry) (c : Cause) → has is_promoting h ≡ false → Ends h → Ends (Promoting c ∷ h)
start_ends h c n i = record { sendable = i.sendable; opened = start_opened h c n i.opened; failed = i.failed }

-- a promotion is over, after CREATED
pub over_ends : (h : List Entry) (u : ℕ) (c : Cause) → has is_created_got h ≡ true → has is_promoting h ≡ true → Ends h → Ends (Promoted u c ∷ h)
over_ends h u c g s i = record { sendable = i.sendable; opened = over_opened h u c g s i.opened; failed = i.failed }

-- a promotable is made where b wasn't opened
pub promotable_ends : (h : List Entry) (e : EnlNo) → has (opens Begin) h ≡ false → Ends h → Ends (Enlisted e Promotable ∷ h)
promotable_ends h e n i = record { sendable = i.sendable; opened = promotable_opened h e n i.opened; failed = i.failed }
