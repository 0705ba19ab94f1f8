-- What one more entry makes of what the branches say of an enlistment.
use Rattle.std.proofs.Common.{◌≡◌, ℕ, ◌==◌, Bool, true, false, ◌&&◌, ◌||◌, not, List, map, filter, find, Option, Some, None, is_some, refl, sym, ◌∙◌}
use Rattle.std.specs.Option.{option_map}
use Rattle.dtx_values.specs.declared.entry.Entry.{Entry}
use Rattle.dtx_values.specs.declared.entry.Entry.TheVariants.{Sent, Got, Told, Reenlisted, Acked}
use Rattle.dtx_values.specs.declared.entry.Party.TheVariants.{Enl}
use Rattle.dtx_values.specs.declared.message.Conn.{Conn}
use Rattle.dtx_values.specs.declared.message.Conn.TheVariants.{Enl as OnEnl, Again}
use Rattle.dtx_values.specs.declared.message.Dir.TheVariants.{Up, Down}
use Rattle.dtx_values.specs.declared.message.Message.TheVariants.{EnlistEnlist, EnlistEnlisted, EnlistCommit, ReenlistCommitted}
use Rattle.dtx_values.specs.declared.number.EnlNo.{EnlNo}
use Rattle.dtx_values.specs.declared.number.RmNo.{RmNo}
use Rattle.dtx_values.specs.declared.words.Outcome.TheVariants.{Aborted}
use Rattle.dtx_model.specs.declared.branch.Branch.{Branch}
use Rattle.dtx_model.specs.Observed.{branch_aborted, branch_acked, branch_due, branch_enlisted, branch_number, branches_after, is_branch, is_done_branch, with_branch}
use Rattle.dtx_model.specs.Words.{has}
use Rattle.dtx_model.proofs.Bools.{and_left, and_never, not_true}
use Rattle.dtx_model.proofs.Passing.{has-insert_by, has-map}
use Rattle.reenlist_recovery.specs.Enlisted.{accepted_if, is_accepted, seat_after, seat_of, sent_if, told_if}
use Rattle.reenlist_recovery.proofs.Found.{find-left, find-map, find-none, find-other, find-own, found, has-found, has-left, has-more, has-none, same_number, third_number}

-- a branch that was just made
abbrev pub made : EnlNo → RmNo → Branch
made f r = record { enlistment = f; manager = r; enlisted = false; aborted = false; acked = false; due = None }

-- another's branch isn't its own
not_its : (e f : ℕ) → (e == f) ≡ true → (b : Branch) → not (is_branch f b) ≡ true → is_branch e b ≡ false
not_its e f same b k = same_number e f b.enlistment.value same (not_true (is_branch f b) k)

not_told : (e f : ℕ) → (e == f) ≡ true → (b : Branch) → not (is_branch f b) ≡ true → is_done_branch e b ≡ false
not_told e f same b k = rw (not_its e f same b k) refl

stays_out : (c : Bool) → c ≡ false → not c ≡ true
stays_out true k = absurd cc
stays_out false k = refl

apart_number : (e f n : ℕ) → (e == f) ≡ false → (e == n) ≡ true → (f == n) ≡ false
apart_number e f n k l = third_number e f n l ∙ k

its_stays : (e f : ℕ) → (e == f) ≡ false → (b : Branch) → is_branch e b ≡ true → not (is_branch f b) ≡ true
its_stays e f apart b k = stays_out (is_branch f b) (apart_number e f b.enlistment.value apart k)

told_stays : (e f : ℕ) → (e == f) ≡ false → (b : Branch) → is_done_branch e b ≡ true → not (is_branch f b) ≡ true
told_stays e f apart b k = its_stays e f apart b (and_left (is_branch e b) (b.acked || b.aborted) k)

-- its ENLIST is sent
sent_seat : (e : ℕ) (f : EnlNo) (r : RmNo) (bs : List Branch) (c : Bool) → (e == f.value) ≡ c → seat_of e (with_branch f r bs) ≡ sent_if c r (seat_of e bs)
sent_seat e f r bs true same =
    let b = made f r in
    let others = filter (λ (x : Branch). not (is_branch f.value x)) bs in
    let first = find-own (is_branch e) branch_number b others same (find-none (is_branch e) (λ (x : Branch). not (is_branch f.value x)) (not_its e f.value same) bs) in
    let told = has-insert_by (is_done_branch e) branch_number b others in
    let none = has-none (is_done_branch e) (λ (x : Branch). not (is_branch f.value x)) (not_told e f.value same) bs in
    λ k. record {
      manager = option_map (λ (x : Branch). x.manager) (first k);
      enlisted = is_accepted (first k);
      told = (told ∙ (λ j. and_never (e == f.value) j || none j)) k;
    }
sent_seat e f r bs false apart =
    let b = made f r in
    let others = filter (λ (x : Branch). not (is_branch f.value x)) bs in
    let first = find-other (is_branch e) branch_number b others apart ∙ find-left (is_branch e) (λ (x : Branch). not (is_branch f.value x)) (its_stays e f.value apart) bs in
    let told = has-insert_by (is_done_branch e) branch_number b others in
    let left = has-left (is_done_branch e) (λ (x : Branch). not (is_branch f.value x)) (told_stays e f.value apart) bs in
    λ k. record {
      manager = option_map (λ (x : Branch). x.manager) (first k);
      enlisted = is_accepted (first k);
      told = (told ∙ (λ j. and_never (e == f.value) j || left j)) k;
    }

-- what is found of a branch that changed, where its manager stays
manager_same : (g : Branch → Branch) → ((b : Branch) → (g b).manager ≡ b.manager) → (o : Option Branch) → option_map (λ (x : Branch). x.manager) (option_map g o) ≡ option_map (λ (x : Branch). x.manager) o
manager_same g same None = refl
manager_same g same (Some b) = λ k. Some (same b k)

accepted_same : (g : Branch → Branch) → ((b : Branch) → (g b).enlisted ≡ b.enlisted) → (o : Option Branch) → is_accepted (option_map g o) ≡ is_accepted o
accepted_same g same None = refl
accepted_same g same (Some b) = same b

some_manager : (o : Option Branch) → is_some o ≡ is_some (option_map (λ (x : Branch). x.manager) o)
some_manager None = refl
some_manager (Some b) = refl

-- its ENLISTED is got
accepted_more : (e f : ℕ) (o : Option Branch) → ((b : Branch) → o ≡ Some b → is_branch e b ≡ true) → is_accepted (option_map (branch_enlisted f) o) ≡ (is_accepted o || ((e == f) && is_some (option_map (λ (x : Branch). x.manager) o)))
accepted_more e f None its = sym (and_never (e == f))
accepted_more e f (Some b) its = (λ k. third_number e f b.enlistment.value (its b refl) k || b.enlisted) ∙ turn (e == f) b.enlisted
  where
    turn : (c a : Bool) → (c || a) ≡ (a || (c && true))
    turn true true = refl
    turn true false = refl
    turn false true = refl
    turn false false = refl

accepted_seat : (e f : ℕ) (bs : List Branch) → seat_of e (map (branch_enlisted f) bs) ≡ accepted_if (e == f) (seat_of e bs)
accepted_seat e f bs =
    let o = find (is_branch e) bs in
    let first = find-map (is_branch e) (branch_enlisted f) (λ b. refl) bs in
    λ k. record {
      manager = ((λ j. option_map (λ (x : Branch). x.manager) (first j)) ∙ manager_same (branch_enlisted f) (λ b. refl) o) k;
      enlisted = ((λ j. is_accepted (first j)) ∙ accepted_more e f o (found (is_branch e) bs)) k;
      told = has-map (is_done_branch e) (branch_enlisted f) (λ b. refl) bs k;
    }

-- it is told the abort, or acknowledges
turn_aborted : (c acked aborted : Bool) → (acked || (c || aborted)) ≡ ((acked || aborted) || (c && true))
turn_aborted c true aborted = refl
turn_aborted true false true = refl
turn_aborted true false false = refl
turn_aborted false false true = refl
turn_aborted false false false = refl

turn_acked : (c acked aborted : Bool) → ((c || acked) || aborted) ≡ ((acked || aborted) || (c && true))
turn_acked true true aborted = refl
turn_acked true false true = refl
turn_acked true false false = refl
turn_acked false true aborted = refl
turn_acked false false true = refl
turn_acked false false false = refl

aborted_told : (e f : ℕ) (b : Branch) → is_done_branch e (branch_aborted f b) ≡ (is_done_branch e b || ((e == f) && is_branch e b))
aborted_told e f b = by (is_branch e b) refl
  where
    by : (s : Bool) → is_branch e b ≡ s → (s && (b.acked || (is_branch f b || b.aborted))) ≡ ((s && (b.acked || b.aborted)) || ((e == f) && s))
    by true k = (λ j. b.acked || (third_number e f b.enlistment.value k j || b.aborted)) ∙ turn_aborted (e == f) b.acked b.aborted
    by false k = sym (and_never (e == f))

acked_told : (e f : ℕ) (b : Branch) → is_done_branch e (branch_acked f b) ≡ (is_done_branch e b || ((e == f) && is_branch e b))
acked_told e f b = by (is_branch e b) refl
  where
    by : (s : Bool) → is_branch e b ≡ s → (s && ((is_branch f b || b.acked) || b.aborted)) ≡ ((s && (b.acked || b.aborted)) || ((e == f) && s))
    by true k = (λ j. (third_number e f b.enlistment.value k j || b.acked) || b.aborted) ∙ turn_acked (e == f) b.acked b.aborted
    by false k = sym (and_never (e == f))

-- by a change that leaves all else
told_seat : (e f : ℕ) (g : Branch → Branch) → ((b : Branch) → is_branch e (g b) ≡ is_branch e b) → ((b : Branch) → (g b).manager ≡ b.manager) → ((b : Branch) → (g b).enlisted ≡ b.enlisted)
    → ((b : Branch) → is_done_branch e (g b) ≡ (is_done_branch e b || ((e == f) && is_branch e b))) → (bs : List Branch) → seat_of e (map g bs) ≡ told_if (e == f) (seat_of e bs)
told_seat e f g number manager enlisted told bs =
    let o = find (is_branch e) bs in
    let first = find-map (is_branch e) g number bs in
    λ k. record {
      manager = ((λ j. option_map (λ (x : Branch). x.manager) (first j)) ∙ manager_same g manager o) k;
      enlisted = ((λ j. is_accepted (first j)) ∙ accepted_same g enlisted o) k;
      told =
          (has-more (is_done_branch e) (is_done_branch e) (is_branch e) g (e == f) told bs
          ∙ (λ j. has (is_done_branch e) bs || ((e == f) && has-found (is_branch e) bs j))
          ∙ (λ j. has (is_done_branch e) bs || ((e == f) && some_manager o j))) k;
    }

-- a commit that is due changes nothing of it
due_seat : (e f : ℕ) (c : Option Conn) (bs : List Branch) → seat_of e (map (branch_due f c) bs) ≡ seat_of e bs
due_seat e f c bs =
    let o = find (is_branch e) bs in
    let first = find-map (is_branch e) (branch_due f c) (λ b. refl) bs in
    λ k. record {
      manager = ((λ j. option_map (λ (x : Branch). x.manager) (first j)) ∙ manager_same (branch_due f c) (λ b. refl) o) k;
      enlisted = ((λ j. is_accepted (first j)) ∙ accepted_same (branch_due f c) (λ b. refl) o) k;
      told = has-map (is_done_branch e) (branch_due f c) (λ b. refl) bs k;
    }

-- what the branches say after one more entry
pub seat-more : (e : ℕ) (x : Entry) (bs : List Branch) → seat_of e (branches_after x bs) ≡ seat_after e x (seat_of e bs)
seat-more e (Sent (OnEnl f) Up (EnlistEnlist i)) bs = sent_seat e f i.rm bs (e == f.value) refl
seat-more e (Got (OnEnl f) Down EnlistEnlisted) bs = accepted_seat e f.value bs
seat-more e (Got (OnEnl f) Down EnlistCommit) bs = due_seat e f.value (Some (OnEnl f)) bs
seat-more e (Got (Again f) Down ReenlistCommitted) bs = due_seat e f.value (Some (Again f)) bs
seat-more e (Told (Enl f) Aborted) bs = told_seat e f.value (branch_aborted f.value) (λ b. refl) (λ b. refl) (λ b. refl) (aborted_told e f.value) bs
seat-more e (Acked f) bs = told_seat e f.value (branch_acked f.value) (λ b. refl) (λ b. refl) (λ b. refl) (acked_told e f.value) bs
seat-more e (Reenlisted f) bs = due_seat e f.value None bs
seat-more e _ bs = refl
