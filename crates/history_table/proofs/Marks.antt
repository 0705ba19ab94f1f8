-- What promotables, returns and clones come with: an ask to promote after a promotion began, b is opened after a promotable's reply, an ask to commit after the seal, who comes back has no
-- connection of its own, and each clone was made by a call that came.
use Rattle.std.proofs.Common.{◌≡◌, ℕ, ◌==◌, Bool, true, false, ◌&&◌, ◌||◌, List, [], ◌∷◌, Some, refl, sym, subst}
use Rattle.std.specs.Prelude.{not}
use Rattle.std.proofs.lemmas.Bool.{eqb-true, false_from_ne_true}
use Rattle.dtx_values.specs.declared.call.Call.{Call}
use Rattle.dtx_values.specs.declared.entry.Ask.TheVariants.{Prepare, Promote, Single}
use Rattle.dtx_values.specs.declared.entry.Entry.{Entry}
use Rattle.dtx_values.specs.declared.entry.Entry.TheVariants.{Asked, Cloned, Enlisted, Got, Reenlisted, Sent}
use Rattle.dtx_values.specs.declared.message.Conn.{Conn}
use Rattle.dtx_values.specs.declared.message.Conn.TheVariants.{Begin, Enl}
use Rattle.dtx_values.specs.declared.message.Dir.TheVariants.{Up, Down}
use Rattle.dtx_values.specs.declared.message.Message.{Message}
use Rattle.dtx_values.specs.declared.message.Message.TheVariants.{BeginBegin, EnlistEnlist, EnlistEnlisted}
use Rattle.dtx_values.specs.declared.number.ActorNo.{ActorNo}
use Rattle.dtx_values.specs.declared.number.CloneNo.{CloneNo}
use Rattle.dtx_values.specs.declared.number.EnlNo.{EnlNo}
use Rattle.dtx_values.specs.declared.words.Class.{Class}
use Rattle.dtx_values.specs.declared.words.CloneKind.{CloneKind}
use Rattle.dtx_values.specs.Class.{is_promotable}
use Rattle.dtx_values.specs.Ends.{knows, same_connection}
use Rattle.dtx_values.specs.Lines.{has_line, is_opening}
use Rattle.dtx_model.specs.Words.{each, has, onto}
use Rattle.dtx_model.specs.Entries.{is_call, is_promoted, is_sealed}
use Rattle.dtx_model.specs.Observed.{ends_of, is_ask_promote, is_ask_single, is_promote_reply}
use Rattle.dtx_model.specs.Promotes.{is_enlisted_got, is_promoting}
use Rattle.dtx_model.specs.Caused.{made_by}
use Rattle.dtx_model.specs.Grammar.{OfClone}
use Rattle.dtx_model.specs.Wires.{opens}
use Rattle.dtx_model.proofs.Bools.{and_left, and_right, not_both, not_true, or_case, or_right}
use Rattle.history_table.proofs.Scans.{has_more}
use Rattle.history_table.proofs.EntryTests.{is_cloned, is_return}
use Rattle.history_table.proofs.Table.{is_there, message_row, rule, stands_promotable}
use Rattle.history_table.proofs.Keeping.{Keeps, before, keeps_before, newest}
use Rattle.history_table.proofs.Crossed.{is_got_on, was_sent}
use Rattle.history_table.proofs.Tests.{fourth_of_four}
use Rattle.history_table.proofs.Standing.{opened_if_got}
use Rattle.history_table.proofs.CoreKnown.{sent_opened_there}
use Rattle.history_table.proofs.TameBlocks.{Tame, is_tame}
use Rattle.history_table.proofs.EndsSeen.{unknown_more}
use Rattle.history_table.proofs.Handing.{keeps_within}
use Rattle.history_table.proofs.Messages.{BEGIN}
use Rattle.dtx_model.proofs.Connections.{same_is}

-- a call that may come made this clone, and its line came
pub record IsCloner (G : ℕ → ActorNo → Call → Type 0) (h : List Entry) (c : ℕ) : Type 0 where
  pub number : ℕ
  pub actor : ActorNo
  pub call : Call
  pub may : G number actor call
  pub makes : made_by call ≡ Some (OfClone c)
  pub called : has (is_call number) h ≡ true

-- What stands at the end of each block: of asks to promote and to commit, of the opening of b, of who came back, and of clones.
pub record IsMarked (G : ℕ → ActorNo → Call → Type 0) (h : List Entry) : Type 0 where
  pub promote : has is_ask_promote h ≡ true → has is_promoting h ≡ true
  pub replied : (e : ℕ) → stands_promotable e h ≡ true → has (opens Begin) h ≡ true → has is_promote_reply h ≡ true
  pub single : has is_ask_single h ≡ true → (has is_sealed h ≡ true) × (has is_promoted h ≡ true)
  -- the local side doesn't know the own connection of who came back
  pub back : (e : EnlNo) → has (is_return e.value) h ≡ true → knows (Enl e) (ends_of h) ≡ false
  pub cloned : (c : ℕ) → has (is_cloned c) h ≡ true → IsCloner G h c

-- it is so at the start
pub none_marked : (G : ℕ → ActorNo → Call → Type 0) → IsMarked G []
none_marked G =
    record { promote = λ t. absurd cc; replied = λ e s t. absurd cc; single = λ t. absurd cc; back = λ e t. absurd cc; cloned = λ c t. absurd cc }

-- with one more entry
pub cloner_more : (G : ℕ → ActorNo → Call → Type 0) (h : List Entry) (c : ℕ) (x : Entry) → IsCloner G h c → IsCloner G (x ∷ h) c
cloner_more G h c x m =
    record { number = m.number; actor = m.actor; call = m.call; may = m.may; makes = m.makes; called = or_right (is_call m.number x) (has (is_call m.number) h) m.called }

-- Who came back had its ENLISTED, so its own connection was opened, and isn't again.
pub enlisted_on : (e : EnlNo) (x : Entry) → is_enlisted_got e.value x ≡ true → is_got_on (Enl e) Down (λ m. true) x ≡ true
enlisted_on e (Got (Enl f) Down EnlistEnlisted) t = step (e.value == f.value) t
  where
    step : (b : Bool) → b ≡ true → (b && true && true) ≡ true
    step true q = refl
    step false q = absurd cc
enlisted_on e _ t = absurd cc

-- whose ENLISTED came, its connection was opened
pub opened_if_enlisted : (e : EnlNo) (h : List Entry) → Keeps h → has (is_enlisted_got e.value) h ≡ true → has (opens (Enl e)) h ≡ true
opened_if_enlisted e h k t =
    opened_if_got (Enl e) h k
    (sent_opened_there (Enl e) (λ m. true) h k (was_sent (Enl e) Down (λ m. true) h k.wires (has_more (is_enlisted_got e.value) (is_got_on (Enl e) Down (λ m. true)) (enlisted_on e) h t)))

pub return_row : (n : ℕ) (x : Entry) (h : List Entry) → Keeps h → rule h x ≡ true → is_return n x ≡ true → has (is_enlisted_got n) h ≡ true
return_row n (Reenlisted f) h k r t = let P : ℕ → Type 0 = λ m. has (is_enlisted_got m) h ≡ true in subst P (sym (eqb-true n f.value t)) r
return_row n _ h k r t = absurd cc

-- so was the connection of who came back
pub opened_if_returned : (e : EnlNo) (h : List Entry) → Keeps h → has (is_return e.value) h ≡ true → has (opens (Enl e)) h ≡ true
opened_if_returned e h k t = opened_if_enlisted e h k (before (is_return e.value) (is_enlisted_got e.value) (return_row e.value) h k t)

-- the connection of an enlistment is opened once
enlist_new : (e : EnlNo) (m : Message) (h : List Entry) → is_opening (Enl e) m ≡ true → message_row h (Enl e) m ≡ true → has (opens (Enl e)) h ≡ false
enlist_new e (EnlistEnlist i) h o r =
    not_true (has (opens (Enl e)) h) (and_right _ (not (has (opens (Enl e)) h)) (and_left (_ && not (has (opens (Enl e)) h)) _ r))
enlist_new e _ h o r = absurd cc

-- so where it was opened, no entry opens it again
pub unopened_again : (e : EnlNo) (x : Entry) (h : List Entry) → Keeps (x ∷ h) → has (opens (Enl e)) h ≡ true → opens (Enl e) x ≡ false
unopened_again e (Sent c Up m) h k o =
    false_from_ne_true (same_connection (Enl e) c && is_opening c m)
    (λ t. let same : Enl e ≡ c = same_is (Enl e) c (and_left (same_connection (Enl e) c) (is_opening c m) t) in
    let P : Conn → Type 0 = λ d. (is_opening d m ≡ true) × (message_row h d m ≡ true) in
    let row = subst P (sym same) (and_right (same_connection (Enl e) c) (is_opening c m) t, fourth_of_four (has_line c Up m) (has is_promoting h) (is_there h c Up m) (message_row h c m) (newest (Sent c Up m) h k)) in
    not_both (has (opens (Enl e)) h) o (enlist_new e m h row.0 row.1))
unopened_again e (Sent c Down m) h k o = refl
unopened_again e _ h k o = refl

-- One more tame entry keeps it, where it keeps the table.
tame_unasked : (x : Entry) → is_tame x ≡ true → (is_ask_promote x ≡ false) × (is_ask_single x ≡ false)
tame_unasked (Asked e Prepare) t = (refl, refl)
tame_unasked (Asked e Promote) t = absurd cc
tame_unasked (Asked e Single) t = absurd cc
tame_unasked _ t = (refl, refl)

tame_promotable : (e : ℕ) (x : Entry) (h : List Entry) → is_tame x ≡ true → stands_promotable e (x ∷ h) ≡ true → stands_promotable e h ≡ true
tame_promotable e (Enlisted f c) h t s =
    or_case ((e == f.value) && is_promotable c) (stands_promotable e h) (λ a. absurd (not_both (is_promotable c) (and_right (e == f.value) (is_promotable c) a) (not_true (is_promotable c) t))) (λ a. a) s
tame_promotable e _ h t s = s

begin_opening : (m : Message) → is_opening Begin m ≡ true → BEGIN m ≡ true
begin_opening BeginBegin t = refl
begin_opening _ t = absurd cc

tame_unopened : (x : Entry) → is_tame x ≡ true → opens Begin x ≡ true → ⊥
tame_unopened (Sent Begin Up m) t o = not_both (BEGIN m) (begin_opening m o) (not_true (BEGIN m) t)
tame_unopened (Sent c Down m) t o = absurd cc
tame_unopened _ t o = absurd cc

tame_unreturned : (n : ℕ) (x : Entry) → is_tame x ≡ true → is_return n x ≡ false
tame_unreturned n (Reenlisted f) t = absurd cc
tame_unreturned n _ t = refl

tame_uncloned : (c : ℕ) (x : Entry) → is_tame x ≡ true → is_cloned c x ≡ false
tame_uncloned c (Cloned d k) t = absurd cc
tame_uncloned c _ t = refl

-- what an entry isn't, is what came before
old : (a b : Bool) → a ≡ false → (a || b) ≡ true → b ≡ true
old true b n t = absurd cc
old false b n t = t

-- the entry
pub tame_marked : (G : ℕ → ActorNo → Call → Type 0) (x : Entry) (h : List Entry) → is_tame x ≡ true → Keeps (x ∷ h) → IsMarked G h → IsMarked G (x ∷ h)
tame_marked G x h t k m =
    record {
      promote = λ a. or_right (is_promoting x) (has is_promoting h) (m.promote (old (is_ask_promote x) (has is_ask_promote h) (tame_unasked x t).0 a));
      replied =
          λ e s o. or_right (is_promote_reply x) (has is_promote_reply h)
          (m.replied e (tame_promotable e x h t s) (or_case (opens Begin x) (has (opens Begin) h) (λ a. absurd (tame_unopened x t a)) (λ a. a) o));
      single =
          λ a. let before = m.single (old (is_ask_single x) (has is_ask_single h) (tame_unasked x t).1 a) in
          (or_right (is_sealed x) (has is_sealed h) before.0, or_right (is_promoted x) (has is_promoted h) before.1);
      back =
          λ e a. let r = old (is_return e.value x) (has (is_return e.value) h) (tame_unreturned e.value x t) a in
          unknown_more (Enl e) x h (unopened_again e x h k (opened_if_returned e h (keeps_before x h k) r)) (m.back e r);
      cloned = λ c a. cloner_more G h c x (m.cloned c (old (is_cloned c x) (has (is_cloned c) h) (tame_uncloned c x t) a));
    }

-- a list of tame entries keeps it too
pub tame_onto : (G : ℕ → ActorNo → Call → Type 0) (h es : List Entry) → Tame es → Keeps (onto h es) → IsMarked G h → IsMarked G (onto h es)
tame_onto G h [] t k m = m
tame_onto G h (x ∷ es) t k m =
    tame_onto G (x ∷ h) es (record { proof = and_right (is_tame x) (each is_tame es) t.proof }) k
    (tame_marked G x h (and_left (is_tame x) (each is_tame es) t.proof) (keeps_within (x ∷ h) es k) m)

-- The other entries. An ask to promote.
pub promote_marked : (G : ℕ → ActorNo → Call → Type 0) (e : EnlNo) (h : List Entry) → has is_promoting h ≡ true → IsMarked G h → IsMarked G (Asked e Promote ∷ h)
promote_marked G e h p m = record { promote = λ a. p; replied = m.replied; single = m.single; back = m.back; cloned = λ c a. cloner_more G h c (Asked e Promote) (m.cloned c a) }

-- an ask to commit
pub single_marked : (G : ℕ → ActorNo → Call → Type 0) (e : EnlNo) (h : List Entry) → has is_sealed h ≡ true → has is_promoted h ≡ true → IsMarked G h → IsMarked G (Asked e Single ∷ h)
single_marked G e h s p m = record { promote = m.promote; replied = m.replied; single = λ a. (s, p); back = m.back; cloned = λ c a. cloner_more G h c (Asked e Single) (m.cloned c a) }

-- b is opened, where nothing is promotable or the promotable replied
pub opening_marked : (G : ℕ → ActorNo → Call → Type 0) (h : List Entry) → ((e : ℕ) → stands_promotable e h ≡ true → has is_promote_reply h ≡ true) → IsMarked G h → IsMarked G (Sent Begin Up BeginBegin ∷ h)
opening_marked G h f m =
    record {
      promote = m.promote;
      replied = λ e s o. f e s;
      single = m.single;
      back = λ e a. unknown_more (Enl e) (Sent Begin Up BeginBegin) h refl (m.back e a);
      cloned = λ c a. cloner_more G h c (Sent Begin Up BeginBegin) (m.cloned c a);
    }

-- a promotable is enlisted where b isn't opened
pub promotable_marked : (G : ℕ → ActorNo → Call → Type 0) (e : EnlNo) (c : Class) (h : List Entry) → has (opens Begin) h ≡ false → IsMarked G h → IsMarked G (Enlisted e c ∷ h)
promotable_marked G e c h n m =
    record {
      promote = m.promote;
      replied = λ f s o. absurd (not_both (has (opens Begin) h) o n);
      single = m.single;
      back = m.back;
      cloned = λ d a. cloner_more G h d (Enlisted e c) (m.cloned d a);
    }

-- one comes back whose own connection isn't known
pub return_marked : (G : ℕ → ActorNo → Call → Type 0) (e : EnlNo) (h : List Entry) → knows (Enl e) (ends_of h) ≡ false → IsMarked G h → IsMarked G (Reenlisted e ∷ h)
return_marked G e h n m =
    record {
      promote = m.promote;
      replied = m.replied;
      single = m.single;
      back =
          λ f a. or_case (f.value == e.value) (has (is_return f.value) h)
          (λ q. let same : Enl f ≡ Enl e = same_is (Enl f) (Enl e) q in
          let P : Conn → Type 0 = λ d. knows d (ends_of h) ≡ false in
          subst P (sym same) n) (λ q. m.back f q) a;
      cloned = λ c a. cloner_more G h c (Reenlisted e) (m.cloned c a);
    }

-- a clone is made by a call that came
pub cloned_marked : (G : ℕ → ActorNo → Call → Type 0) (c : CloneNo) (k : CloneKind) (h : List Entry) → IsCloner G h c.value → IsMarked G h → IsMarked G (Cloned c k ∷ h)
cloned_marked G c k h n m =
    record {
      promote = m.promote;
      replied = m.replied;
      single = m.single;
      back = m.back;
      cloned =
          λ d a. or_case (d == c.value) (has (is_cloned d) h)
          (λ q. let P : ℕ → Type 0 = λ x. IsCloner G (Cloned c k ∷ h) x in subst P (sym (eqb-true d c.value q)) (cloner_more G h c.value (Cloned c k) n))
          (λ q. cloner_more G h d (Cloned c k) (m.cloned d q)) a;
    }
