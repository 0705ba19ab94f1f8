-- Why a put is refused, by what is found.
use Rattle.std.specs.Prelude.{find, is_some, position}
use Rattle.std.specs.Option.{option_map}
use Rattle.std.proofs.Common.{◌≡◌, ℕ, Bool, true, false, ◌||◌, not, nat_lt, Option, Some, None, refl, sym, length}
use Rattle.dtx_model.specs.Words.{has}
use Rattle.kv_resource.specs.Bytes.{KvRecord}
use Rattle.kv_resource.specs.Store.{KvDraft, KvMemory, Pair, Prepared, Stopped, busy_by, draft_of, first_refusal, has_slot, is_busy_draft, is_busy_record, on_open, open_records, or_too_many, pair_of_draft, pair_of_record, put_refusal, wrote_key}
use Rattle.kv_resource.proofs.Finding.{Slots, find_first, is_first, none_first}

-- a put's refusal by its parts
pub refused_by : (m : KvMemory) (p : Pair) (k : ℕ) (stopped slot takes : Bool) (r : Option KvRecord) (d : Option KvDraft) → m.stopped ≡ stopped → has_slot m p ≡ slot
    → (wrote_key k (draft_of m p) || nat_lt (length (draft_of m p)) 40) ≡ takes → find (is_busy_record p k) (open_records m.slots) ≡ r → find (is_busy_draft p k) m.drafts ≡ d
    → put_refusal m p k ≡ first_refusal stopped Stopped (first_refusal slot (Prepared p.0 p.1) (or_too_many (not takes) (busy_by r d)))
unfolding put_refusal
refused_by m p k stopped slot takes r d a b c e f = λ i. first_refusal (a i) Stopped (first_refusal (b i) (Prepared p.0 p.1) (or_too_many (not (c i)) (busy_by (e i) (f i))))

-- what is found of another pair
pub some_record : (o : Option KvRecord) (q : Pair) → Some q ≡ option_map pair_of_record o → (r : KvRecord) × (o ≡ Some r) × (q ≡ pair_of_record r)
some_record None q e = absurd cc
some_record (Some r) q e = (r, refl, cc)

pub no_record : (o : Option KvRecord) → None ≡ option_map pair_of_record o → o ≡ None
no_record None e = refl
no_record (Some r) e = absurd cc

pub some_draft : (o : Option KvDraft) (q : Pair) → Some q ≡ option_map pair_of_draft o → (d : KvDraft) × (o ≡ Some d) × (q ≡ pair_of_draft d)
some_draft None q e = absurd cc
some_draft (Some d) q e = (d, refl, cc)

pub no_draft_busy : (o : Option KvDraft) → None ≡ option_map pair_of_draft o → o ≡ None
no_draft_busy None e = refl
no_draft_busy (Some d) e = absurd cc

-- a slot that is found, or not
pub slot_there : (q : KvRecord → Bool) (ss : Slots) (o : Option ℕ) → o ≡ position (on_open q) ss → is_some o ≡ true → has q (open_records ss) ≡ true
slot_there q ss (Some k) is e = (find_first q ss k (is_first q ss k (sym is))).1
slot_there q ss None is e = absurd cc

pub slot_none : (q : KvRecord → Bool) (ss : Slots) (o : Option ℕ) → o ≡ position (on_open q) ss → is_some o ≡ false → has q (open_records ss) ≡ false
slot_none q ss (Some k) is e = absurd cc
slot_none q ss None is e = (none_first q ss (sym is)).0
