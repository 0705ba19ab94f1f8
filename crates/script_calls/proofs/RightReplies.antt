-- A step's block keeps that each reply is as planned, or of an enlistment whose manager has an object.
use Rattle.std.proofs.Common.{◌≡◌, ℕ, Bool, true, false, ◌&&◌, ◌||◌, List, [], ◌∷◌, Option, Some, None, is_some, refl, ap, sym, subst, ◌∙◌}
use Rattle.dtx_values.specs.declared.entry.Entry.{Entry}
use Rattle.dtx_values.specs.declared.entry.Entry.TheVariants.{Voted, PromoteReply, Requested, OwnerAnswered, Stopped}
use Rattle.dtx_values.specs.declared.note.Note.{Note}
use Rattle.dtx_values.specs.declared.note.Note.TheVariants.{Prepare as PrepareNote, Promote as PromoteNote, Hand, Single, Commit as CommitNote}
use Rattle.dtx_values.specs.declared.note.Plan.{Plan}
use Rattle.dtx_values.specs.declared.note.Reply.{Reply}
use Rattle.dtx_values.specs.declared.note.Reply.TheVariants.{Vote as VoteReply, Promote as Promotes, Owner as OwnerReply, Ack}
use Rattle.dtx_values.specs.declared.number.EnlNo.{EnlNo}
use Rattle.dtx_values.specs.declared.words.Outcome.{Outcome}
use Rattle.dtx_values.specs.declared.words.Outcome.TheVariants.{Committed, Aborted, InDoubt}
use Rattle.dtx_values.specs.declared.words.Vote.{Vote}
use Rattle.dtx_values.specs.declared.words.Vote.TheVariants.{Yes, No, Done as VoteDone}
use Rattle.dtx_model.specs.Words.{always, each, onto, same}
use Rattle.dtx_model.specs.World.{World}
use Rattle.dtx_model.specs.Steps.{Done, Full, StoppedNow, StoppedBefore, Step, Calls, Replies, Acts, Coordinates, Delivers, Stops, Restarts, block_at}
use Rattle.dtx_model.specs.Plans.{owner_reply, planned as reply_planned, promote_reply, vote_reply}
use Rattle.dtx_model.specs.Replies.{fits, request_of}
use Rattle.dtx_model.specs.Caused.{is_as_planned, is_outcome_planned, is_promotion_planned, is_request_planned, is_vote_planned, same_vote}
use Rattle.dtx_model.specs.Entries.{same_outcome}
use Rattle.dtx_model.proofs.Bools.{and_both, and_left, and_right, or_right}
use Rattle.script_calls.proofs.StepBlocks.{OfReply, OfStep, is_deed, of_block}

-- the entry is as planned or free, whatever is before it
abbrev pub is_right : (ℕ → Plan) → (ℕ → Bool) → Entry → Bool
is_right p free x = is_as_planned p free [] x

right_any : (p : ℕ → Plan) (free : ℕ → Bool) (past : List Entry) (x : Entry) → is_as_planned p free past x ≡ is_right p free x
right_any p free past (Voted e v) = refl
right_any p free past (PromoteReply e ok) = refl
right_any p free past (OwnerAnswered e x) = refl
right_any p free past (Requested e r) = refl
right_any p free past _ = refl

deed_right : (p : ℕ → Plan) (free : ℕ → Bool) (x : Entry) → is_deed x ≡ true → is_right p free x ≡ true
deed_right p free (Voted e v) k = absurd cc
deed_right p free (PromoteReply e ok) k = absurd cc
deed_right p free (OwnerAnswered e x) k = absurd cc
deed_right p free (Requested e r) k = absurd cc
deed_right p free _ k = refl

-- The reply that a plan has to a note.
vote_in : (o : Option Vote) (v : Vote) → vote_reply o ≡ Some (VoteReply v) → o ≡ Some v
vote_in (Some w) v k = cc
vote_in None v k = absurd cc

owner_in : (o : Option Outcome) (x : Outcome) → owner_reply o ≡ Some (OwnerReply x) → o ≡ Some x
owner_in (Some y) x k = cc
owner_in None x k = absurd cc

promote_in : (o : Option Bool) (b : Bool) → promote_reply o ≡ Some (Promotes b) → o ≡ Some b
promote_in (Some a) b k = cc
promote_in None b k = absurd cc

vote_to : (o : Option Vote) (r : Reply) → vote_reply o ≡ Some r → (v : Vote) × (r ≡ VoteReply v)
vote_to (Some v) r k = (v, cc)
vote_to None r k = absurd cc

owner_to : (o : Option Outcome) (r : Reply) → owner_reply o ≡ Some r → (x : Outcome) × (r ≡ OwnerReply x)
owner_to (Some x) r k = (x, cc)
owner_to None r k = absurd cc

promote_to : (o : Option Bool) (r : Reply) → promote_reply o ≡ Some r → (b : Bool) × (r ≡ Promotes b)
promote_to (Some b) r k = (b, cc)
promote_to None r k = absurd cc

vote_itself : (v : Vote) → same_vote v v ≡ true
vote_itself Yes = refl
vote_itself No = refl
vote_itself VoteDone = refl

outcome_itself : (x : Outcome) → same_outcome x x ≡ true
outcome_itself Committed = refl
outcome_itself Aborted = refl
outcome_itself InDoubt = refl

promotion_itself : (b : Bool) → same b b ≡ true
promotion_itself true = refl
promotion_itself false = refl

request_itself : (x : Outcome) → is_request_planned (Some x) (request_of x) ≡ true
request_itself Committed = refl
request_itself Aborted = refl
request_itself InDoubt = refl

vote_planned : (p : ℕ → Plan) (free : ℕ → Bool) (e : EnlNo) (v : Vote) → (p e.value).vote ≡ Some v → OfReply (is_right p free) e (VoteReply v)
vote_planned p free e v k = or_right (free e.value && is_some (p e.value).vote) (is_vote_planned (p e.value).vote v) (ap (λ o. is_vote_planned o v) k ∙ vote_itself v)

promote_planned : (p : ℕ → Plan) (free : ℕ → Bool) (e : EnlNo) (b : Bool) → (p e.value).promote ≡ Some b → OfReply (is_right p free) e (Promotes b)
promote_planned p free e b k = or_right (free e.value && is_some (p e.value).promote) (is_promotion_planned (p e.value).promote b) (ap (λ o. is_promotion_planned o b) k ∙ promotion_itself b)

owner_planned : (p : ℕ → Plan) (free : ℕ → Bool) (e : EnlNo) (x : Outcome) → (p e.value).owner ≡ Some x → OfReply (is_right p free) e (OwnerReply x)
owner_planned p free e x k =
    let may = free e.value && is_some (p e.value).owner in (
      or_right may (is_outcome_planned (p e.value).owner x) (ap (λ o. is_outcome_planned o x) k ∙ outcome_itself x),
      or_right may (is_request_planned (p e.value).owner (request_of x)) (ap (λ o. is_request_planned o (request_of x)) k ∙ request_itself x),
    )

-- So a reply that is planned to what is due writes what is planned,
pub reply_to : (p : ℕ → Plan) (free : ℕ → Bool) (e : EnlNo) (n : Note) (r : Reply) → reply_planned (p e.value) n ≡ Some r → OfReply (is_right p free) e r
reply_to p free e PrepareNote r k =
    let is = vote_to (p e.value).vote r k in
    subst (λ q. OfReply (is_right p free) e q) (sym is.1) (vote_planned p free e is.0 (vote_in (p e.value).vote is.0 (k ∙ ap Some is.1)))
reply_to p free e PromoteNote r k =
    let is = promote_to (p e.value).promote r k in
    subst (λ q. OfReply (is_right p free) e q) (sym is.1) (promote_planned p free e is.0 (promote_in (p e.value).promote is.0 (k ∙ ap Some is.1)))
reply_to p free e Hand r k =
    let is = owner_to (p e.value).owner r k in
    subst (λ q. OfReply (is_right p free) e q) (sym is.1) (owner_planned p free e is.0 (owner_in (p e.value).owner is.0 (k ∙ ap Some is.1)))
reply_to p free e Single r k =
    let is = owner_to (p e.value).owner r k in
    subst (λ q. OfReply (is_right p free) e q) (sym is.1) (owner_planned p free e is.0 (owner_in (p e.value).owner is.0 (k ∙ ap Some is.1)))
reply_to p free e CommitNote r k = let is : Ack ≡ r = cc in subst (λ q. OfReply (is_right p free) e q) is tt
reply_to p free e _ r k = absurd cc

-- and so does one of an enlistment that answers freely, where it fits the note and its plan isn't silent to that.
some_vote : (o : Option Vote) → is_some (vote_reply o) ≡ true → is_some o ≡ true
some_vote (Some v) k = refl
some_vote None k = absurd cc

some_owner : (o : Option Outcome) → is_some (owner_reply o) ≡ true → is_some o ≡ true
some_owner (Some v) k = refl
some_owner None k = absurd cc

some_promote : (o : Option Bool) → is_some (promote_reply o) ≡ true → is_some o ≡ true
some_promote (Some v) k = refl
some_promote None k = absurd cc

freely : (a b c : Bool) → a ≡ true → b ≡ true → (a && b || c) ≡ true
freely true true c f g = refl
freely false b c f g = absurd cc
freely true false c f g = absurd cc

pub free_to : (p : ℕ → Plan) (free : ℕ → Bool) (e : EnlNo) (n : Note) (r : Reply) → free e.value ≡ true → fits r n ≡ true → is_some (reply_planned (p e.value) n) ≡ true → OfReply (is_right p free) e r
free_to p free e PrepareNote (VoteReply v) f k o = freely (free e.value) (is_some (p e.value).vote) (is_vote_planned (p e.value).vote v) f (some_vote (p e.value).vote o)
free_to p free e PromoteNote (Promotes b) f k o = freely (free e.value) (is_some (p e.value).promote) (is_promotion_planned (p e.value).promote b) f (some_promote (p e.value).promote o)
free_to p free e Hand (OwnerReply x) f k o =
    let some = some_owner (p e.value).owner o in (
      freely (free e.value) (is_some (p e.value).owner) (is_outcome_planned (p e.value).owner x) f some,
      freely (free e.value) (is_some (p e.value).owner) (is_request_planned (p e.value).owner (request_of x)) f some,
    )
free_to p free e Single (OwnerReply x) f k o =
    let some = some_owner (p e.value).owner o in (
      freely (free e.value) (is_some (p e.value).owner) (is_outcome_planned (p e.value).owner x) f some,
      freely (free e.value) (is_some (p e.value).owner) (is_request_planned (p e.value).owner (request_of x)) f some,
    )
free_to p free e CommitNote Ack f k o = tt
free_to p free e n r f k o = absurd cc

-- The reply of a step is allowed to what is due.
abbrev pub IsReplyRight : (ℕ → Plan) → (ℕ → Bool) → Step → Type 0
IsReplyRight p free (Replies e r) = OfReply (is_right p free) e r
IsReplyRight p free m = Unit {0}

step_right : (p : ℕ → Plan) (free : ℕ → Bool) (m : Step) → IsReplyRight p free m → OfStep (is_right p free) m
step_right p free (Calls n a c k) q = tt
step_right p free (Replies e r) q = q
step_right p free Acts q = tt
step_right p free (Coordinates Done) q = (refl, refl)
step_right p free (Coordinates Full) q = tt
step_right p free (Coordinates StoppedNow) q = refl
step_right p free (Coordinates StoppedBefore) q = refl
step_right p free (Delivers c d) q = tt
step_right p free Stops q = refl
step_right p free (Restarts found) q = (refl, refl)

-- So each entry of its block is.
pub right_block : (p : ℕ → Plan) (free : ℕ → Bool) (t : ℕ) (w : World) (m : Step) → IsReplyRight p free m → each (is_right p free) (block_at t w m) ≡ true
right_block p free t w m q = (of_block (is_right p free) (deed_right p free) t w m (step_right p free m q)).proof

-- A history with a block after it: its replies are right where those of both are.
pub right_onto : (p : ℕ → Plan) (free : ℕ → Bool) (h es : List Entry) → always (is_as_planned p free) h ≡ true → each (is_right p free) es ≡ true → always (is_as_planned p free) (onto h es) ≡ true
right_onto p free h [] k q = k
right_onto p free h (x ∷ es) k q =
    let first : is_as_planned p free h x ≡ true = right_any p free h x ∙ and_left (is_right p free x) (each (is_right p free) es) q in
    right_onto p free (x ∷ h) es (and_both (is_as_planned p free h x) (always (is_as_planned p free) h) first k) (and_right (is_right p free x) (each (is_right p free) es) q)

-- So is the history after a step.
pub right_step : (p : ℕ → Plan) (free : ℕ → Bool) (t : ℕ) (w : World) (m : Step) → IsReplyRight p free m → always (is_as_planned p free) w.past ≡ true
    → always (is_as_planned p free) (onto w.past (block_at t w m)) ≡ true
right_step p free t w m q k = right_onto p free w.past (block_at t w m) k (right_block p free t w m q)

-- and with `stopped` after that
pub right_stop : (p : ℕ → Plan) (free : ℕ → Bool) (h : List Entry) → always (is_as_planned p free) h ≡ true → always (is_as_planned p free) (Stopped ∷ h) ≡ true
right_stop p free h k = k
