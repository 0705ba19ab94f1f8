-- The rows of the enlistments with one more entry.
use Rattle.std.proofs.Common.{◌≡◌, ℕ, Bool, true, false, cond, ◌==◌, ◌&&◌, ◌||◌, List, ◌∷◌, length, ◌<◌, ◌≢◌, get_or, set, Option, Some, None, refl, ap, arith, subst, sym, ◌∙◌}
use Rattle.std.proofs.lemmas.Bool.Decides.{nat_tests}
use Rattle.std.proofs.lemmas.Grind.{get_or-set_at}
use Rattle.std.proofs.lemmas.List.{get_or_default, get_or-set_other}
use Rattle.dtx_values.specs.declared.entry.Entry.{Entry}
use Rattle.dtx_values.specs.declared.entry.Entry.TheVariants.{Enlisted, Voted, Handed, OwnerAnswered, Sent, Got}
use Rattle.dtx_values.specs.declared.message.Conn.TheVariants.{Enl}
use Rattle.dtx_values.specs.declared.message.Dir.TheVariants.{Up, Down}
use Rattle.dtx_values.specs.declared.message.Message.{Message}
use Rattle.dtx_values.specs.declared.message.Message.TheVariants.{EnlistNo, EnlistOneAborted, EnlistOneCommitted, EnlistOneInDoubt, EnlistPrepared, EnlistReadonly, EnlistSingle}
use Rattle.dtx_values.specs.declared.number.EnlNo.{EnlNo}
use Rattle.dtx_values.specs.declared.words.Class.{Class}
use Rattle.dtx_values.specs.declared.words.Outcome.TheVariants.{Committed, InDoubt}
use Rattle.dtx_values.specs.Class.{is_volatile}
use Rattle.dtx_model.specs.Entries.{is_any_owner, is_hand, is_one_got, is_owner, is_single_sent, is_vote, is_vote_got, same_outcome}
use Rattle.dtx_model.specs.Outcome.{volatiles}
use Rattle.dtx_model.specs.Words.{has}
use Rattle.trace_checker.specs.declared.members.Ballot.{Ballot}
use Rattle.trace_checker.specs.declared.members.Dealings.{Dealings}
use Rattle.trace_checker.specs.declared.members.Member.{Member}
use Rattle.trace_checker.specs.declared.members.Members.{Members}
use Rattle.trace_checker.specs.Members.{IsMemberOf, IsMembersOf, ballot, ballot_after, blank, dealer, dealings, dealings_after, is_one_message, is_vote_message, member, none, voter, whole}
use Rattle.trace_checker.specs.Voters.{is_enlisted}
use Rattle.trace_checker.proofs.Keys.{same_is, same_number}

-- the enlistment that the entry is about
abbrev about : Entry → Option EnlNo
about (Enlisted e c) = Some e
about (Voted e v) = Some e
about (Handed e) = Some e
about (OwnerAnswered e o) = Some e
about (Sent (Enl e) Down EnlistSingle) = Some e
about (Got (Enl e) Up m) = Some e
about _ = None

-- what is known of an enlistment, with an entry that is about it
abbrev member_after : Entry → Member → Member
member_after (Enlisted e c) m = record m { volatile = is_volatile c || m.volatile }
member_after (Voted e v) m = record m { voted = true }
member_after (Handed e) m = record m { handed = true }
member_after (OwnerAnswered e o) m = record m { answered = true; committed = same_outcome Committed o || m.committed; unsure = same_outcome InDoubt o || m.unsure }
member_after (Sent c d x) m = record m { single = true }
member_after (Got c d x) m = record m { heard = is_vote_message x || m.heard; replied = is_one_message x || m.replied }
member_after _ m = m

and_true : (b : Bool) → b ≡ (b && true)
and_true true = refl
and_true false = refl

and_false : (b : Bool) → false ≡ (b && false)
and_false true = refl
and_false false = refl

-- a message that the coordinator gets from an enlistment
vote_got : (e : ℕ) (f : EnlNo) (m : Message) → is_vote_got e (Got (Enl f) Up m) ≡ ((e == f.value) && is_vote_message m)
vote_got e f EnlistPrepared = and_true (e == f.value)
vote_got e f EnlistNo = and_true (e == f.value)
vote_got e f EnlistReadonly = and_true (e == f.value)
vote_got e f _ = and_false (e == f.value)

one_got : (e : ℕ) (f : EnlNo) (m : Message) → is_one_got e (Got (Enl f) Up m) ≡ ((e == f.value) && is_one_message m)
one_got e f EnlistOneCommitted = and_true (e == f.value)
one_got e f EnlistOneAborted = and_true (e == f.value)
one_got e f EnlistOneInDoubt = and_true (e == f.value)
one_got e f _ = and_false (e == f.value)

-- an enlistment more
enlisted_more : (e : ℕ) (f : EnlNo) (c : Class) (h : List Entry) → is_enlisted (volatiles (Enlisted f c ∷ h)) e ≡ (((e == f.value) && is_volatile c) || is_enlisted (volatiles h) e)
enlisted_more e f c h = by (is_volatile c)
  where
    by : (b : Bool) → is_enlisted (cond b ((f, c) ∷ volatiles h) (volatiles h)) e ≡ (((e == f.value) && b) || is_enlisted (volatiles h) e)
    by true = ap (λ b. b || is_enlisted (volatiles h) e) (and_true (e == f.value))
    by false = ap (λ b. b || is_enlisted (volatiles h) e) (and_false (e == f.value))

-- what a test on this name adds
named : (e : ℕ) (b old new : Bool) → old ≡ new → (b || old) ≡ (((e == e) && b) || new)
named e b old new k = rw (same_number e, k) refl

once : (e : ℕ) (new : Bool) → true ≡ ((e == e) || new)
once e new = rw (same_number e) refl

-- what a test on another name adds
unnamed : (e f : ℕ) (b old new : Bool) → (e == f) ≡ false → old ≡ new → old ≡ (((e == f) && b) || new)
unnamed e f b old new n k = rw n k

apart : (e f : ℕ) (old new : Bool) → (e == f) ≡ false → old ≡ new → old ≡ ((e == f) || new)
apart e f old new n k = rw n k

-- the row of the enlistment that the entry is about
abbrev FollowsAt : List Entry → Entry → Option EnlNo → Member → Type 0
FollowsAt h x (Some f) m = IsMemberOf h f.value m → IsMemberOf (x ∷ h) f.value (member_after x m)
FollowsAt h x None m = Unit {0}

follows_at : (h : List Entry) (x : Entry) (m : Member) → FollowsAt h x (about x) m
follows_at h (Enlisted f c) m = λ k. record {
  volatile = named f.value (is_volatile c) m.volatile (is_enlisted (volatiles h) f.value) k.volatile ∙ sym (enlisted_more f.value f c h);
  voted = k.voted;
  heard = k.heard;
  handed = k.handed;
  answered = k.answered;
  committed = k.committed;
  unsure = k.unsure;
  single = k.single;
  replied = k.replied;
}
follows_at h (Voted f v) m = λ k. record {
  voted = once f.value (has (is_vote f.value) h);
  volatile = k.volatile;
  heard = k.heard;
  handed = k.handed;
  answered = k.answered;
  committed = k.committed;
  unsure = k.unsure;
  single = k.single;
  replied = k.replied;
}
follows_at h (Handed f) m = λ k. record {
  handed = once f.value (has (is_hand f.value) h);
  volatile = k.volatile;
  voted = k.voted;
  heard = k.heard;
  answered = k.answered;
  committed = k.committed;
  unsure = k.unsure;
  single = k.single;
  replied = k.replied;
}
follows_at h (OwnerAnswered f o) m = λ k. record {
  answered = once f.value (has (is_any_owner f.value) h);
  committed = named f.value (same_outcome Committed o) m.committed (has (is_owner f.value Committed) h) k.committed;
  unsure = named f.value (same_outcome InDoubt o) m.unsure (has (is_owner f.value InDoubt) h) k.unsure;
  volatile = k.volatile;
  voted = k.voted;
  heard = k.heard;
  handed = k.handed;
  single = k.single;
  replied = k.replied;
}
follows_at h (Sent (Enl f) Down EnlistSingle) m = λ k. record {
  single = once f.value (has (is_single_sent f.value) h);
  volatile = k.volatile;
  voted = k.voted;
  heard = k.heard;
  handed = k.handed;
  answered = k.answered;
  committed = k.committed;
  unsure = k.unsure;
  replied = k.replied;
}
follows_at h (Got (Enl f) Up m') m = λ k. record {
  heard = named f.value (is_vote_message m') m.heard (has (is_vote_got f.value) h) k.heard ∙ sym (ap (λ b. b || has (is_vote_got f.value) h) (vote_got f.value f m'));
  replied = named f.value (is_one_message m') m.replied (has (is_one_got f.value) h) k.replied ∙ sym (ap (λ b. b || has (is_one_got f.value) h) (one_got f.value f m'));
  volatile = k.volatile;
  voted = k.voted;
  handed = k.handed;
  answered = k.answered;
  committed = k.committed;
  unsure = k.unsure;
  single = k.single;
}
follows_at h _ m = tt

-- any other row stays
abbrev is_about : ℕ → Option EnlNo → Bool
is_about e (Some f) = e == f.value
is_about e None = false

others : (h : List Entry) (x : Entry) (e : ℕ) (m : Member) → is_about e (about x) ≡ false → IsMemberOf h e m → IsMemberOf (x ∷ h) e m
others h (Enlisted f c) e m n k = record {
  volatile = unnamed e f.value (is_volatile c) m.volatile (is_enlisted (volatiles h) e) n k.volatile ∙ sym (enlisted_more e f c h);
  voted = k.voted;
  heard = k.heard;
  handed = k.handed;
  answered = k.answered;
  committed = k.committed;
  unsure = k.unsure;
  single = k.single;
  replied = k.replied;
}
others h (Voted f v) e m n k = record {
  voted = apart e f.value m.voted (has (is_vote e) h) n k.voted;
  volatile = k.volatile;
  heard = k.heard;
  handed = k.handed;
  answered = k.answered;
  committed = k.committed;
  unsure = k.unsure;
  single = k.single;
  replied = k.replied;
}
others h (Handed f) e m n k = record {
  handed = apart e f.value m.handed (has (is_hand e) h) n k.handed;
  volatile = k.volatile;
  voted = k.voted;
  heard = k.heard;
  answered = k.answered;
  committed = k.committed;
  unsure = k.unsure;
  single = k.single;
  replied = k.replied;
}
others h (OwnerAnswered f o) e m n k = record {
  answered = apart e f.value m.answered (has (is_any_owner e) h) n k.answered;
  committed = unnamed e f.value (same_outcome Committed o) m.committed (has (is_owner e Committed) h) n k.committed;
  unsure = unnamed e f.value (same_outcome InDoubt o) m.unsure (has (is_owner e InDoubt) h) n k.unsure;
  volatile = k.volatile;
  voted = k.voted;
  heard = k.heard;
  handed = k.handed;
  single = k.single;
  replied = k.replied;
}
others h (Sent (Enl f) Down EnlistSingle) e m n k = record {
  single = apart e f.value m.single (has (is_single_sent e) h) n k.single;
  volatile = k.volatile;
  voted = k.voted;
  heard = k.heard;
  handed = k.handed;
  answered = k.answered;
  committed = k.committed;
  unsure = k.unsure;
  replied = k.replied;
}
others h (Got (Enl f) Up x) e m n k = record {
  heard = unnamed e f.value (is_vote_message x) m.heard (has (is_vote_got e) h) n k.heard ∙ sym (ap (λ b. b || has (is_vote_got e) h) (vote_got e f x));
  replied = unnamed e f.value (is_one_message x) m.replied (has (is_one_got e) h) n k.replied ∙ sym (ap (λ b. b || has (is_one_got e) h) (one_got e f x));
  volatile = k.volatile;
  voted = k.voted;
  handed = k.handed;
  answered = k.answered;
  committed = k.committed;
  unsure = k.unsure;
  single = k.single;
}
others h _ e m n k = record {
  volatile = k.volatile;
  voted = k.voted;
  heard = k.heard;
  handed = k.handed;
  answered = k.answered;
  committed = k.committed;
  unsure = k.unsure;
  single = k.single;
  replied = k.replied;
}

-- an entry that is about nobody
nobody : (x : Entry) → voter x ≡ None → dealer x ≡ None → about x ≡ None
nobody (Enlisted e c) v d = v
nobody (Voted e c) v d = v
nobody (Handed e) v d = d
nobody (OwnerAnswered e o) v d = d
nobody (Sent (Enl e) Down EnlistSingle) v d = d
nobody (Got (Enl e) Up m) v d = d
nobody _ v d = refl

pub members_idle : (h : List Entry) (x : Entry) (ms : Members) → voter x ≡ None → dealer x ≡ None → IsMembersOf h ms → IsMembersOf (x ∷ h) ms
members_idle h x ms v d k = λ e. others h x e (member e ms) (ap (is_about e) (nobody x v d)) (k e)

-- the row that the entry is about is put, and the others stay
members_more : (h : List Entry) (x : Entry) (old new : Members) (f : EnlNo) (key : ℕ) (row : Member) → about x ≡ Some f → key ≡ f.value → row ≡ member_after x (member f.value old)
    → ((q : ℕ) → member q new ≡ cond (q == key) row (member q old)) → IsMembersOf h old → IsMembersOf (x ∷ h) new
members_more h x old new f key row a w r u k = λ e. by e (e == f.value) refl
  where
    now : (e : ℕ) (b : Bool) → (e == f.value) ≡ b → member e new ≡ cond b row (member e old)
    now e b n = u e ∙ ap (λ b. cond b row (member e old)) (ap (λ j. e == j) w ∙ n)

    by : (e : ℕ) (b : Bool) → (e == f.value) ≡ b → IsMemberOf (x ∷ h) e (member e new)
    by e true n =
        let at : e ≡ f.value = same_is e f.value n in
        let F : Option EnlNo → Type 0 = λ o. FollowsAt h x o (member f.value old) in
        let step : FollowsAt h x (Some f) (member f.value old) = subst F a (follows_at h x (member f.value old)) in
        let G : ℕ → Type 0 = λ n. IsMemberOf (x ∷ h) n (member_after x (member f.value old)) in
        let M : Member → Type 0 = λ m. IsMemberOf (x ∷ h) e m in
        subst M (sym (now e true n ∙ r)) (subst G (sym at) (step (k f.value)))
    by e false n =
        let M : Member → Type 0 = λ m. IsMemberOf (x ∷ h) e m in
        subst M (sym (now e false n)) (others h x e (member e old) (ap (is_about e) a ∙ n) (k e))

-- a row is put in its place
put_row : {A : Type 0} (d : A) (rows : List A) (n : ℕ) (row : A) → n < length rows → (q : ℕ) → get_or (set rows n row) q d ≡ cond (q == n) row (get_or rows q d)
put_row d rows n row l q = by (q == n) refl
  where
    apart : (q == n) ≡ false → q ≢ n
    apart e = grind (arith, nat_tests)

    by : (b : Bool) → (q == n) ≡ b → get_or (set rows n row) q d ≡ cond b row (get_or rows q d)
    by true e = get_or-set_at rows n q row d (same_is q n e) l
    by false e = get_or-set_other rows n q row d (apart e)

-- the row that stood there, where the table was made to reach as far
row_before : {A : Type 0} (d : A) (rows old : List A) (f key : ℕ) (was : A) → key ≡ f → key < length rows → ((q : ℕ) → get_or rows q d ≡ get_or old q d) → was ≡ get_or rows key was → was ≡ get_or old f d
row_before d rows old f key was w l same r = r ∙ (get_or_default rows key was d l ∙ (same key ∙ ap (λ n. get_or old n d) w))

-- an entry that changes a ballot
of_voter : (x : Entry) (f : EnlNo) → voter x ≡ Some f → about x ≡ Some f
of_voter (Enlisted e c) f k = k
of_voter (Voted e v) f k = k
of_voter _ f k = absurd cc

with_ballot : (x : Entry) (f : EnlNo) (b : Ballot) (d : Dealings) → voter x ≡ Some f → whole (ballot_after x b) d ≡ member_after x (whole b d)
with_ballot (Enlisted e c) f b d k = refl
with_ballot (Voted e v) f b d k = refl
with_ballot _ f b d k = absurd cc

pub ballot_put : (h : List Entry) (x : Entry) (old new : Members) (rows : List Ballot) (f : EnlNo) (key : ℕ) (was row : Ballot) → voter x ≡ Some f → key ≡ f.value → key < length rows
    → ((q : ℕ) → get_or rows q blank ≡ ballot q old) → was ≡ get_or rows key was → row ≡ ballot_after x was → new.ballots.items ≡ set rows key row → ((q : ℕ) → dealings q new ≡ dealings q old)
    → IsMembersOf h old → IsMembersOf (x ∷ h) new
ballot_put h x old new rows f key was row a w l same r s put rest = members_more h x old new f key (whole row (dealings f.value old)) (of_voter x f a) w noted after
  where
    noted : whole row (dealings f.value old) ≡ member_after x (member f.value old)
    noted = ap (λ b. whole b (dealings f.value old)) (s ∙ ap (ballot_after x) (row_before blank rows old.ballots.items f.value key was w l same r)) ∙ with_ballot x f (ballot f.value old) (dealings f.value old) a

    by : (q : ℕ) (b : Bool) → (q == key) ≡ b → whole (cond b row (ballot q old)) (dealings q old) ≡ cond b (whole row (dealings f.value old)) (member q old)
    by q true e = ap (λ n. whole row (dealings n old)) (same_is q key e ∙ w)
    by q false e = refl

    after : (q : ℕ) → member q new ≡ cond (q == key) (whole row (dealings f.value old)) (member q old)
    after q = ap (λ b. whole b (dealings q new)) (ap (λ rows. get_or rows q blank) put ∙ (put_row blank rows key row l q ∙ ap (cond (q == key) row) (same q)))
        ∙ (ap (whole (cond (q == key) row (ballot q old))) (rest q) ∙ by q (q == key) refl)

-- an entry that changes dealings
of_dealer : (x : Entry) (f : EnlNo) → dealer x ≡ Some f → about x ≡ Some f
of_dealer (Handed e) f k = k
of_dealer (OwnerAnswered e o) f k = k
of_dealer (Sent (Enl e) Down EnlistSingle) f k = k
of_dealer (Got (Enl e) Up m) f k = k
of_dealer _ f k = absurd cc

with_dealings : (x : Entry) (f : EnlNo) (b : Ballot) (d : Dealings) → dealer x ≡ Some f → whole b (dealings_after x d) ≡ member_after x (whole b d)
with_dealings (Handed e) f b d k = refl
with_dealings (OwnerAnswered e o) f b d k = refl
with_dealings (Sent (Enl e) Down EnlistSingle) f b d k = refl
with_dealings (Got (Enl e) Up m) f b d k = refl
with_dealings _ f b d k = absurd cc

pub dealings_put : (h : List Entry) (x : Entry) (old new : Members) (rows : List Dealings) (f : EnlNo) (key : ℕ) (was row : Dealings) → dealer x ≡ Some f → key ≡ f.value → key < length rows
    → ((q : ℕ) → get_or rows q none ≡ dealings q old) → was ≡ get_or rows key was → row ≡ dealings_after x was → new.dealings.items ≡ set rows key row → ((q : ℕ) → ballot q new ≡ ballot q old)
    → IsMembersOf h old → IsMembersOf (x ∷ h) new
dealings_put h x old new rows f key was row a w l same r s put rest = members_more h x old new f key (whole (ballot f.value old) row) (of_dealer x f a) w noted after
  where
    noted : whole (ballot f.value old) row ≡ member_after x (member f.value old)
    noted = ap (whole (ballot f.value old)) (s ∙ ap (dealings_after x) (row_before none rows old.dealings.items f.value key was w l same r)) ∙ with_dealings x f (ballot f.value old) (dealings f.value old) a

    by : (q : ℕ) (b : Bool) → (q == key) ≡ b → whole (ballot q old) (cond b row (dealings q old)) ≡ cond b (whole (ballot f.value old) row) (member q old)
    by q true e = ap (λ n. whole (ballot n old) row) (same_is q key e ∙ w)
    by q false e = refl

    after : (q : ℕ) → member q new ≡ cond (q == key) (whole (ballot f.value old) row) (member q old)
    after q = ap (whole (ballot q new)) (ap (λ rows. get_or rows q none) put ∙ (put_row none rows key row l q ∙ ap (cond (q == key) row) (same q)))
        ∙ (ap (λ b. whole b (cond (q == key) row (dealings q old))) (rest q) ∙ by q (q == key) refl)
