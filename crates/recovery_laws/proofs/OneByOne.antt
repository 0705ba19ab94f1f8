-- Recovery of one resource after another ends what was whole, although it frees records.
use Rattle.std.proofs.Common.{◌≡◌, ◌⊎◌, inl, inr, ℕ, Bool, true, false, cond, not, ◌&&◌, ◌||◌, ◌==◌, List, [], ◌∷◌, ◌++◌, Option, Some, None, refl, ap, subst, sym, ◌∙◌, append_assoc}
use Rattle.std.proofs.lemmas.Bool.{and_from, and_left, and_parts, and_right, eqb-true, or_from, or_parts}
use Rattle.std.proofs.lemmas.List.{append-nil}
use Rattle.dtx_model.specs.Log.{CommitRecord, first_of}
use Rattle.dtx_model.specs.Promotes.{identifier_of}
use Rattle.dtx_model.specs.Words.{each, has}
use Rattle.recovery_laws.proofs.Changing.{all_sites, each_on, has_joined, none_sites}
use Rattle.recovery_laws.proofs.Ending.{ended}
use Rattle.recovery_laws.proofs.Holdings.{Each, EachAt, Passes, each_at, each_not_at, each_off, is_marked, is_unmarked, none_left}
use Rattle.recovery_laws.proofs.Leaving.{IsMarked, each_settled, held_at, kept_the, marked_stays, none_marked, none_settled, unmarked_at}
use Rattle.recovery_laws.proofs.Settling.{IsNamed, is_here, is_named, kept_one, named_by, one_settled}
use Rattle.recovery_laws.proofs.Stepping.{not_both, steps_whole}
use Rattle.recovery_laws.specs.Finding.{names, settled, settled_one}
use Rattle.recovery_laws.specs.OneByOne.{IsRecoveredOneByOne, RecoversEach, RecoversOne, Standing, covers, has_unmarked_beyond, is_among}
use Rattle.recovery_laws.specs.Steps.{at_site}
use Rattle.recovery_laws.specs.Whole.{IsEnded, Site, are_all_named, has_here, has_marked, has_unmarked, is_held, is_of_number, is_whole, is_whole_by}
use Rattle.resource_managers.specs.Holding.{Holding}

-- ---- the managers on the desk

-- a record names no manager beyond those that cover it
not_named : (ms : List ℕ) (k e : ℕ) (ps : List (ℕ × ℕ)) → each (λ p. is_among p.0 ms) ps ≡ true → is_among k ms ≡ false → has (λ p. (k == p.0) && (e == p.1)) ps ≡ false
not_named ms k e [] all off = refl
not_named ms k e (p ∷ ps) all off =
    let parts = and_parts (is_among p.0 ms) (each (λ q. is_among q.0 ms) ps) all in
    or_from ((k == p.0) && (e == p.1)) (has (λ q. (k == q.0) && (e == q.1)) ps) (and_left (k == p.0) (e == p.1) (by (k == p.0) refl parts.0)) (not_named ms k e ps parts.1 off)
  where
    by : (b : Bool) → (k == p.0) ≡ b → is_among p.0 ms ≡ true → b ≡ false
    by true e on = let same : k ≡ p.0 = eqb-true k p.0 e in let here : is_among k ms ≡ true = ap (λ j. is_among j ms) same ∙ on in absurd cc
    by false e on = refl

-- so where it names all that is held, nothing is unmarked at a manager beyond them
none_beyond : (r : CommitRecord) (n k : ℕ) (ms : List ℕ) (hs : List Holding) → covers ms r ≡ true → is_among k ms ≡ false → each (is_named (Some r) n k) hs ≡ true → has (is_unmarked n) hs ≡ false
none_beyond r n k ms [] all off named = refl
none_beyond r n k ms (h ∷ hs) all off named =
    let parts = and_parts (is_named (Some r) n k h) (each (is_named (Some r) n k) hs) named in
    or_from (is_unmarked n h) (has (is_unmarked n) hs) (and_left (is_of_number n h) (not h.marked) (by (is_of_number n h) parts.0)) (none_beyond r n k ms hs all off parts.1)
  where
    by : (b : Bool) → (not b || names k h.enlistment r) ≡ true → b ≡ false
    by true e = let not_so : names k h.enlistment r ≡ false = not_named ms k h.enlistment r.enlistments all off in absurd cc
    by false e = refl

beyond_covered : (r : CommitRecord) (n : ℕ) (ms : List ℕ) (ss : List Site) → covers ms r ≡ true → are_all_named n r ss ≡ true → has_unmarked_beyond ms n ss ≡ false
beyond_covered r n ms [] all named = refl
beyond_covered r n ms (s ∷ ss) all named =
    let parts = and_parts (each (is_named (Some r) n s.manager) s.held) (are_all_named n r ss) named in
    or_from (not (is_among s.manager ms) && has (is_unmarked n) s.held) (has_unmarked_beyond ms n ss) (by (is_among s.manager ms) refl parts.0) (beyond_covered r n ms ss all parts.1)
  where
    by : (b : Bool) → is_among s.manager ms ≡ b → each (is_named (Some r) n s.manager) s.held ≡ true → (not b && has (is_unmarked n) s.held) ≡ false
    by true e named = refl
    by false e named = none_beyond r n s.manager ms s.held all e named

-- something that is held of the transaction isn't marked, at a manager among these
abbrev has_unmarked_among : List ℕ → ℕ → List Site → Bool
has_unmarked_among ms n ss = has (λ s. is_among s.manager ms && has (is_unmarked n) s.held) ss

none_among : (n : ℕ) (ss : List Site) → has_unmarked_among [] n ss ≡ false
none_among n [] = refl
none_among n (s ∷ ss) = none_among n ss

-- among these and beyond them is everywhere
none_unmarked : (ms : List ℕ) (n : ℕ) (ss : List Site) → has_unmarked_among ms n ss ≡ false → has_unmarked_beyond ms n ss ≡ false → has_unmarked n ss ≡ false
none_unmarked ms n [] among beyond = refl
none_unmarked ms n (s ∷ ss) among beyond =
    let here = or_parts (is_among s.manager ms && has (is_unmarked n) s.held) (has_unmarked_among ms n ss) among in
    let there = or_parts (not (is_among s.manager ms) && has (is_unmarked n) s.held) (has_unmarked_beyond ms n ss) beyond in
    or_from (has (is_unmarked n) s.held) (has_unmarked n ss) (by (is_among s.manager ms) here.0 there.0) (none_unmarked ms n ss here.1 there.1)
  where
    by : (b : Bool) → (b && has (is_unmarked n) s.held) ≡ false → (not b && has (is_unmarked n) s.held) ≡ false → has (is_unmarked n) s.held ≡ false
    by true here there = here
    by false here there = there

-- and where nothing is unmarked, nothing is at any manager
none_where : (g : ℕ → Bool) (n : ℕ) (ss : List Site) → has_unmarked n ss ≡ false → has (λ s. g s.manager && has (is_unmarked n) s.held) ss ≡ false
none_where g n [] off = refl
none_where g n (s ∷ ss) off =
    let parts = or_parts (has (is_unmarked n) s.held) (has_unmarked n ss) off in
    or_from (g s.manager && has (is_unmarked n) s.held) (has (λ x. g x.manager && has (is_unmarked n) x.held) ss) (and_right (g s.manager) (has (is_unmarked n) s.held) parts.0) (none_where g n ss parts.1)

-- the manager that recovers leaves nothing unmarked, and those on the desk left nothing
one_more_done : (rs : List CommitRecord) (n m : ℕ) (desk : List ℕ) (ss : List Site) → EachAt (λ k. Passes (is_named (first_of (identifier_of n) rs) n k) (is_here n)) ss → has_unmarked_among desk n ss ≡ false
    → has_unmarked_among (desk ++ m ∷ []) n (at_site (settled rs m) m ss) ≡ false
one_more_done rs n m desk [] facts done = refl
one_more_done rs n m desk (s ∷ ss) facts done =
    let parts = or_parts (is_among s.manager desk && has (is_unmarked n) s.held) (has_unmarked_among desk n ss) done in
    or_from (is_among s.manager (desk ++ m ∷ []) && has (is_unmarked n) (cond (m == s.manager) (settled rs m s.held) s.held)) (has_unmarked_among (desk ++ m ∷ []) n (at_site (settled rs m) m ss)) (by (m == s.manager) refl parts.0) (one_more_done rs n m desk ss facts.1 parts.1)
  where
    by : (b : Bool) → (m == s.manager) ≡ b → (is_among s.manager desk && has (is_unmarked n) s.held) ≡ false
        → (is_among s.manager (desk ++ m ∷ []) && has (is_unmarked n) (cond b (settled rs m s.held) s.held)) ≡ false
    by true e off =
        let here : Each (Passes (is_named (first_of (identifier_of n) rs) n m) (is_here n)) s.held = subst (λ k. Each (Passes (is_named (first_of (identifier_of n) rs) n k) (is_here n)) s.held) (sym (eqb-true m s.manager e)) facts.0 in
        and_right (is_among s.manager (desk ++ m ∷ [])) (has (is_unmarked n) (settled rs m s.held)) (none_left (is_unmarked n) (Passes (is_named (first_of (identifier_of n) rs) n m) (is_here n)) rs m (one_settled rs n m) s.held here)
    by false e off = rw (has_joined (λ k. k == s.manager) desk m e) off

-- ---- one call

-- the record is as it was, or it's gone, and nothing of the transaction is unmarked
abbrev IsSameOrDone : Option CommitRecord → Option CommitRecord → ℕ → List Site → Type 0
IsSameOrDone o now n ss = (now ≡ o) ⊎ ((now ≡ None) × (has_unmarked n ss ≡ false))

-- How a transaction stands between two calls: o is the record of it before the first call, if any, and now that of the log now. It is whole by the record of before, and nothing of it is unmarked at
-- the managers on the desk.
record Stands (o : Option CommitRecord) (before : List Site) (n : ℕ) (desk : List ℕ) (now : Option CommitRecord) (ss : List Site) : Type 0 where
  whole : is_whole_by o n ss ≡ true
  early : has_here n ss ≡ false
  done : has_unmarked_among desk n ss ≡ false
  same : IsSameOrDone o now n ss
  unmarked : o ≡ None → has_marked n before ≡ false → has_marked n ss ≡ false

is_none : (now : Option CommitRecord) (n : ℕ) (ss : List Site) → IsSameOrDone None now n ss → now ≡ None
is_none now n ss (inl e) = e
is_none now n ss (inr e) = e.0

marked_at : (rs : List CommitRecord) (n m : ℕ) (ss : List Site) → first_of (identifier_of n) rs ≡ None → has_marked n ss ≡ false → has_marked n (at_site (settled rs m) m ss) ≡ false
marked_at rs n m ss first off = none_sites (λ k hs. has (is_marked n) hs) (settled rs m) m ss (λ k hs e. none_left (is_marked n) (λ h. is_marked n h ≡ false) rs m (λ h. none_marked rs n m h first) hs (each_off (is_marked n) hs e)) off

-- each that the record of before names stays held
held_stays : (r : CommitRecord) (rs : List CommitRecord) (n m : ℕ) (ss : List Site) (p : ℕ × ℕ) → are_all_named n r ss ≡ true → has_here n ss ≡ false → IsSameOrDone (Some r) (first_of (identifier_of n) rs) n ss → is_held n ss p ≡ true
    → is_held n (at_site (settled rs m) m ss) p ≡ true
held_stays r rs n m ss p named early (inl first) is =
    held_at (IsNamed r n) rs n m p (λ h fact the. kept_the n p.1 (settled_one rs m h) (kept_one rs r n p.1 m h first the fact)) ss (each_at (is_named (Some r) n) (is_here n) ss named early) is
held_stays r rs n m ss p named early (inr e) is =
    held_at (λ k. IsMarked n) rs n m p (marked_stays rs n p.1 m) ss (each_at (λ k x. not (is_unmarked n x)) (is_here n) ss (each_not_at (is_unmarked n) ss e.1) early) is

whole_stays : (o : Option CommitRecord) (rs : List CommitRecord) (n m : ℕ) (ss : List Site) → is_whole_by o n ss ≡ true → has_here n ss ≡ false → IsSameOrDone o (first_of (identifier_of n) rs) n ss
    → is_whole_by o n (at_site (settled rs m) m ss) ≡ true
whole_stays (Some r) rs n m ss whole early same =
    let parts = and_parts (each (is_held n ss) r.enlistments) (are_all_named n r ss) whole in
    let after = at_site (settled rs m) m ss in
    and_from (each (is_held n after) r.enlistments) (are_all_named n r after)
    (each_on (is_held n ss) (is_held n after) r.enlistments (λ p. held_stays r rs n m ss p parts.1 early same) parts.0)
    (all_sites (λ k hs. each (is_named (Some r) n k) hs) (settled rs m) m ss (λ k hs. each_settled (is_named (Some r) n k) rs m (λ h e. e) hs) parts.1)
whole_stays None rs n m ss whole early same =
    let after = at_site (settled rs m) m ss in
    not_both (has_marked n ss) (has_unmarked n ss) (has_marked n after) (has_unmarked n after)
    (marked_at rs n m ss (is_none (first_of (identifier_of n) rs) n ss same))
    (unmarked_at rs n m (λ k. true) ss)
    whole

done_stays : (o : Option CommitRecord) (rs : List CommitRecord) (n m : ℕ) (desk : List ℕ) (ss : List Site) → is_whole_by o n ss ≡ true → has_here n ss ≡ false → has_unmarked_among desk n ss ≡ false
    → IsSameOrDone o (first_of (identifier_of n) rs) n ss → has_unmarked_among (desk ++ m ∷ []) n (at_site (settled rs m) m ss) ≡ false
done_stays o rs n m desk ss whole early done (inl first) =
    let now = first_of (identifier_of n) rs in
    let here : is_whole_by now n ss ≡ true = ap (λ x. is_whole_by x n ss) first ∙ whole in
    one_more_done rs n m desk ss (each_at (is_named now n) (is_here n) ss (named_by now n ss here) early) done
done_stays o rs n m desk ss whole early done (inr e) = none_where (λ k. is_among k (desk ++ m ∷ [])) n (at_site (settled rs m) m ss) (unmarked_at rs n m (λ k. true) ss e.1)

-- the record goes only where nothing of the transaction is unmarked
same_stays : (o now next : Option CommitRecord) (n m : ℕ) (desk : List ℕ) (rs : List CommitRecord) (ss : List Site) → IsSameOrDone o now n ss → is_whole_by o n (at_site (settled rs m) m ss) ≡ true
    → has_unmarked_among desk n (at_site (settled rs m) m ss) ≡ false → ((r : CommitRecord) → now ≡ Some r → covers desk r ≡ false → next ≡ Some r) → (next ≡ now) ⊎ (next ≡ None)
    → IsSameOrDone o next n (at_site (settled rs m) m ss)
same_stays o now next n m desk rs ss (inr gone) whole done kept either = inr (by either, unmarked_at rs n m (λ k. true) ss gone.1)
  where
    by : (next ≡ now) ⊎ (next ≡ None) → next ≡ None
    by (inl e) = e ∙ gone.0
    by (inr e) = e
same_stays o now next n m desk rs ss (inl same) whole done kept (inl e) = inl (e ∙ same)
same_stays None now next n m desk rs ss (inl same) whole done kept (inr e) = inl e
same_stays (Some r) now next n m desk rs ss (inl same) whole done kept (inr e) = inr (e, by (covers desk r) refl)
  where
    by : (b : Bool) → covers desk r ≡ b → has_unmarked n (at_site (settled rs m) m ss) ≡ false
    by true all =
        let after = at_site (settled rs m) m ss in
        none_unmarked desk n after done (beyond_covered r n desk after all (and_parts (each (is_held n after) r.enlistments) (are_all_named n r after) whole).1)
    by false off = let there = kept r same off in absurd cc

abbrev record_in : Standing → ℕ → Option CommitRecord
record_in x n = first_of (identifier_of n) x.records

one : (o : Option CommitRecord) (before : List Site) (n m : ℕ) (desk : List ℕ) (old new : Standing) → RecoversOne desk m old new → Stands o before n desk (record_in old n) old.sites → Stands o before n (desk ++ m ∷ []) (record_in new n) new.sites
one o before n m desk old new call stands =
    let rs = old.records in
    let whole = whole_stays o rs n m old.sites stands.whole stands.early stands.same in
    let done = done_stays o rs n m desk old.sites stands.whole stands.early stands.done stands.same in
    subst (λ ss. Stands o before n (desk ++ m ∷ []) (record_in new n) ss) (sym call.settles) (record {
      whole = whole;
      early = none_sites (λ k hs. has (is_here n) hs) (settled rs m) m old.sites (λ k hs. none_settled (is_here n) rs m (λ h e. e) hs) stands.early;
      done = done;
      same = same_stays o (record_in old n) (record_in new n) n m (desk ++ m ∷ []) rs old.sites stands.same whole done (call.kept (identifier_of n)) (call.either (identifier_of n));
      unmarked = λ none off. marked_at rs n m old.sites (is_none (record_in old n) n old.sites (subst (λ x. IsSameOrDone x (record_in old n) n old.sites) none stands.same)) (stands.unmarked none off);
    })

-- ---- all calls

joined : (desk : List ℕ) (m : ℕ) (ms : List ℕ) → (desk ++ m ∷ []) ++ ms ≡ desk ++ m ∷ ms
joined desk m ms = rw append_assoc refl

each_call : (ms desk : List ℕ) (o : Option CommitRecord) (before : List Site) (n : ℕ) (old new : Standing) → RecoversEach desk ms old new → Stands o before n desk (record_in old n) old.sites
    → Stands o before n (desk ++ ms) (record_in new n) new.sites
each_call [] desk o before n old new calls stands = rw (append-nil desk, calls) stands
each_call (m ∷ ms) desk o before n old new calls stands =
    subst (λ d. Stands o before n d (record_in new n) new.sites) (joined desk m ms)
    (each_call ms (desk ++ m ∷ []) o before n calls.0 new calls.2 (one o before n m desk old calls.0 calls.1 stands))

-- a call leaves nothing unmarked beyond some managers, where nothing was
beyond_call : (ms desk all : List ℕ) (n : ℕ) (old new : Standing) → RecoversEach desk ms old new → has_unmarked_beyond all n old.sites ≡ false → has_unmarked_beyond all n new.sites ≡ false
beyond_call [] desk all n old new calls off = rw calls off
beyond_call (m ∷ ms) desk all n old new calls off =
    beyond_call ms (desk ++ m ∷ []) all n calls.0 new calls.2 (rw calls.1.settles (unmarked_at old.records n m (λ k. not (is_among k all)) old.sites off))

stands_first : (ms : List ℕ) (old new : Standing) (n : ℕ) → RecoversEach [] ms old new → is_whole old.records old.sites n ≡ true → has_here n old.sites ≡ false
    → Stands (record_in old n) old.sites n ms (record_in new n) new.sites
unfolding is_whole
stands_first ms old new n calls whole early =
    each_call ms [] (record_in old n) old.sites n old new calls (record { whole = whole; early = early; done = none_among n old.sites; same = inl refl; unmarked = λ none off. off })

-- what is whole by the record of before is whole by what the log has now
whole_now : (o : Option CommitRecord) (rs : List CommitRecord) (n : ℕ) (ss : List Site) → is_whole_by o n ss ≡ true → IsSameOrDone o (first_of (identifier_of n) rs) n ss → is_whole rs ss n ≡ true
unfolding is_whole
whole_now o rs n ss whole (inl e) = ap (λ x. is_whole_by x n ss) e ∙ whole
whole_now o rs n ss whole (inr e) = steps_whole.ends rs ss n e.0 e.1

stays : (ms : List ℕ) (old new : Standing) (n : ℕ) → RecoversEach [] ms old new → is_whole old.records old.sites n ≡ true → has_here n old.sites ≡ false
    → (is_whole new.records new.sites n ≡ true) × (has_here n new.sites ≡ false)
stays ms old new n calls whole early =
    let stands = stands_first ms old new n calls whole early in
    (whole_now (record_in old n) new.records n new.sites stands.whole stands.same, stands.early)

ends : (ms : List ℕ) (old new : Standing) (n : ℕ) → RecoversEach [] ms old new → is_whole old.records old.sites n ≡ true → has_here n old.sites ≡ false → has_unmarked_beyond ms n old.sites ≡ false
    → IsEnded old.records old.sites new.sites n
unfolding is_whole
ends ms old new n calls whole early beyond =
    let stands = stands_first ms old new n calls whole early in
    ended old.records old.sites new.sites n stands.whole (none_unmarked ms n new.sites stands.done (beyond_call ms [] ms n old new calls beyond)) stands.unmarked

pub one_by_one : IsRecoveredOneByOne
one_by_one = record { stays = stays; ends = ends }
