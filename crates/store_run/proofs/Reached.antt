-- The store that is reached by what a trace shows the manager's to have heard: its table is that of the puts of those that committed, and they are willing.
use Rattle.std.proofs.Common.{ℕ, ◌≡◌, ◌||◌, ◌&&◌, ◌≤◌, Bool, true, false, List, [], ◌∷◌, length, refl, sym, subst, ◌∙◌, arith}
use Rattle.std.proofs.lemmas.Bool.{or_left}
use Rattle.outside.specs.Faults.{Rose}
use Rattle.dtx_values.specs.declared.entry.Entry.{Entry}
use Rattle.dtx_values.specs.declared.number.RmNo.{RmNo}
use Rattle.dtx_values.specs.declared.number.TxNo.{TxNo}
use Rattle.dtx_values.specs.declared.script.Line.{Line}
use Rattle.dtx_model.specs.Caused.{CausedBy, IsCallOf, Manager, answers, is_volatile_in}
use Rattle.dtx_model.specs.Grammar.{are_named_well}
use Rattle.dtx_model.specs.Tied.{tied}
use Rattle.dtx_model.specs.Traces.{Placed, history}
use Rattle.dtx_model.specs.Words.{has}
use Rattle.dtx_model.proofs.Bools.{or_right}
use Rattle.heard_notes.specs.Heard.{Reaches, heard}
use Rattle.heard_notes.specs.Puts.{putters}
use Rattle.heard_notes.specs.Tables.{AreWilling, commits, table_after}
use Rattle.heard_notes.specs.declared.put.Put.{Put}
use Rattle.history_table.proofs.Lists.{OfEach, of-more}
use Rattle.history_table.proofs.Names.{script_once}
use Rattle.history_table.proofs.Steady.{free_keeps}
use Rattle.history_table.proofs.Tests.{eq_self}
use Rattle.kv_resource.specs.Store.{KvMemory, KvState, Pair, has_draft, has_unmarked, open_records, table_of}
use Rattle.outcome_law.proofs.TellingRuns.{ran_heard}
use Rattle.store_run.specs.Puts.{IsBlank, pair_of, with_puts}
use Rattle.store_run.proofs.Acts.{Seen, has_done, seen, status, status_by}
use Rattle.store_run.proofs.Drafts.{is_put_of}
use Rattle.store_run.proofs.Dues.{caused_owed}
use Rattle.store_run.proofs.Following.{Follows, GivesFirst, StandsBy, followed}
use Rattle.store_run.proofs.Lasting.{managed_made, no_volatile, stands_at, stands_firm}
use Rattle.store_run.proofs.Loading.{IsMade}
use Rattle.store_run.proofs.Pairs.{is_done_of}
use Rattle.store_run.proofs.Standing.{AreLaws, is_marked, stands_commits}
use Rattle.store_run.proofs.Start.{AreFine, begun, drafted_puts, room, starts, written, wrote_puts}
use Rattle.store_run.proofs.Table.{table_is}
use Rattle.store_run.proofs.Willing.{all_willing}

-- the laws hold of each history that the script causes, where each restart found what may be found
pub caused_laws : (s : List Line) (r : RmNo) (free : ℕ → Bool) (t : ℕ) (h : List Entry) → are_named_well s ≡ true → CausedBy s free t h → tied h ≡ true → AreLaws s r t h
caused_laws s r free t h named c d =
    let keeps = free_keeps (IsCallOf s t) t h (script_once s t named) c.freely d in
    record {
      keeps = keeps;
      owed = caused_owed (IsCallOf s t) t h c.freely;
      told = ran_heard (IsCallOf s t) t c.freely.1.0 (record { calls = c.freely.0; past = h }) c.freely.1.1 keeps;
      firm = λ e a. (let m = managed_made s r e a in stands_firm s e t m.0 h named m.1 c.freely);
      made = λ e u m k. stands_at s e t u h named m c.freely k;
    }

-- no durable or promotable is a volatile of the script
pub lasting : (s : List Line) (r : RmNo) → are_named_well s ≡ true → (e : ℕ) → answers s (Manager r) e ≡ true → is_volatile_in s e ≡ false
lasting s r named e a = let m = managed_made s r e a in no_volatile s e m.0 named m.1

-- a pair's record is marked just where the pair stands so
done_marked : (m : KvMemory) (p : Pair) → Seen m p → has_done m p ≡ is_marked (status m p)
done_marked m p w = by (has_draft m p) (has_unmarked m p) (has_done m p) w.alone w.single
  where
    by : (d u k : Bool) → (d && (u || k)) ≡ false → (u && k) ≡ false → k ≡ is_marked (status_by d u k)
    by true true k a b = absurd cc
    by true false true a b = absurd cc
    by true false false a b = refl
    by false true true a b = absurd cc
    by false true false a b = refl
    by false false true a b = refl
    by false false false a b = refl

-- each put is among them
all_put : (ps : List Put) → OfEach (λ q. has (is_put_of (pair_of q)) ps ≡ true) ps
all_put [] = tt
all_put (p ∷ ps) = (
  or_left (is_put_of (pair_of p) p) (has (is_put_of (pair_of p)) ps) (λ i. eq_self p.transaction.value i && eq_self p.enlistment.value i),
  of-more (λ q. has (is_put_of (pair_of q)) ps ≡ true) (λ q. has (is_put_of (pair_of q)) (p ∷ ps) ≡ true) (λ q h. or_right (is_put_of (pair_of q) p) (has (is_put_of (pair_of q)) ps) h) ps (all_put ps),
)

module _ (s : List Line) (r : RmNo) (named : are_named_well s ≡ true) {D : Type 0} (honest : Bool) (image : D → List ℕ → Type 0) (faults : D → ℕ) (sure : (x y : D) → Rose (faults x) (faults y) → ⊥) (ps : List Put) (m : KvState D)
    (blank : IsBlank m.memory) (fine : AreFine s r ps) (P : List Placed) (to : KvState D) (caused : (t : TxNo) → CausedBy s (answers s (Manager r)) t.value (history t.value P))
    (all_tied : (t : TxNo) → tied (history t.value P) ≡ true) (reached : Reaches (GivesFirst honest image faults) s (with_puts m ps) (heard s (Manager r) P) to) where
  laws : (t : TxNo) → AreLaws s r t.value (history t.value P)
  laws t = caused_laws s r (answers s (Manager r)) t.value (history t.value P) named (caused t) (all_tied t)

  follows : Follows s r honest image faults sure (written s r named ps m blank fine) (with_puts m ps) (starts s r named ps m blank fine) (λ e t. begun s r named ps m blank fine (t.value, e.value)) P to.memory
  follows =
      followed s r honest image faults sure (written s r named ps m blank fine) (with_puts m ps) (starts s r named ps m blank fine) (λ e t. begun s r named ps m blank fine (t.value, e.value)) (lasting s r named) P to laws reached

  -- the pair committed, as its history shows
  passes : Pair → Bool
  passes p = has (commits p.1) (history p.0 P)

  done_at : (q : Put) → IsMade s r q → has (is_put_of (pair_of q)) ps ≡ true → has (is_done_of (pair_of q)) (open_records to.memory.slots) ≡ has (commits q.enlistment.value) (history q.transaction.value P)
  done_at q g h =
      done_marked to.memory (pair_of q) (seen (written s r named ps m blank fine) to.memory (pair_of q) follows.of)
      ∙ sym (stands_commits q.enlistment.value (history q.transaction.value P) (status to.memory (pair_of q))
      (subst (λ b. StandsBy b q.enlistment.value (history q.transaction.value P) (status to.memory (pair_of q))) (drafted_puts s r named ps m blank fine (pair_of q) ∙ h) (follows.stands q.transaction q.enlistment g.1)))

  all_done : (xs : List Put) → OfEach (IsMade s r) xs → OfEach (λ q. has (is_put_of (pair_of q)) ps ≡ true) xs
      → OfEach (λ q. has (is_done_of (pair_of q)) (open_records to.memory.slots) ≡ has (commits q.enlistment.value) (history q.transaction.value P)) xs
  all_done [] g h = tt
  all_done (q ∷ xs) g h = (done_at q g.0 h.0, all_done xs g.1 h.1)

  pub store_table : table_of (open_records to.memory.slots) ≡ table_after (Manager r) P ps
  unfolding passes
  store_table =
      table_is ps (open_records to.memory.slots) (written s r named ps m blank fine) (wrote_puts s r named ps m blank fine) follows.of.records fine.apart passes (all_done ps fine.made (all_put ps))

  pub store_willing : length (putters ps) ≤ 1024 → AreWilling s (Manager r) ps P
  store_willing few =
      all_willing s r honest image faults sure (written s r named ps m blank fine) (with_puts m ps) (starts s r named ps m blank fine) (λ e t. begun s r named ps m blank fine (t.value, e.value)) (lasting s r named) ps fine.made
      (drafted_puts s r named ps m blank fine) (let most = room s r named ps m blank fine in omega arith) P to laws reached
