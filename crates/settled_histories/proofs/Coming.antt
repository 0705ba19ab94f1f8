-- In each world that steps make, until something is decided: an enlistment whose ENLIST was sent and whose ENLISTED wasn't got is that of the handover, while the
-- promotion is under way, or its call waits, after it.
use Rattle.std.proofs.Common.{ℕ, Bool, ◌&&◌, ◌||◌, List, ◌≡◌, true, false, ◌∷◌, [], refl, ◌∙◌, sym, ◌==◌, subst}
use Rattle.std.specs.Prelude.{not, if◌then◌else◌}
use Rattle.std.proofs.lemmas.Bool.{eqb-true}
use Rattle.dtx_values.specs.declared.entry.Entry.{Entry}
use Rattle.dtx_values.specs.declared.entry.Entry.TheVariants.{Answered, Called, Promoted, PromotionFailed, Sent, Promoting}
use Rattle.dtx_values.specs.declared.message.Conn.TheVariants.{Enl}
use Rattle.dtx_values.specs.declared.message.Dir.TheVariants.{Up, Down}
use Rattle.dtx_values.specs.declared.message.Message.TheVariants.{EnlistEnlist}
use Rattle.dtx_values.specs.declared.number.EnlNo.{EnlNo}
use Rattle.dtx_values.specs.declared.number.RmNo.{RmNo}
use Rattle.dtx_values.specs.Ends.{same_connection}
use Rattle.dtx_model.specs.declared.waiting.EnteredCall.{EnteredCall}
use Rattle.dtx_model.specs.Words.{has, always, onto, each}
use Rattle.dtx_model.specs.Entries.{is_promoted, is_decision}
use Rattle.dtx_model.specs.Observed.{handover}
use Rattle.dtx_model.specs.Promotes.{is_under_way, is_promoting}
use Rattle.dtx_model.specs.Waiting.{is_place_of, waiting, Waiter}
use Rattle.dtx_model.specs.Half.{is_handed, info, by_manager, enlist_sent}
use Rattle.dtx_model.proofs.Bools.{and_right, not_both, not_true, or_case, and_left, or_second, or_first}
use Rattle.dtx_model.proofs.Reading.{has-onto}
use Rattle.history_table.proofs.Messages.{ENLIST}
use Rattle.history_table.proofs.Crossed.{is_sent_on, is_got_on}
use Rattle.history_table.proofs.PlainBlocks.{is_plain, Plain}
use Rattle.history_table.proofs.DecidingBlocks.{is_kept, Keeps}
use Rattle.history_table.proofs.Scans.{each_both}
use Rattle.settled_histories.proofs.MessageKinds.{ENLISTED}
use Rattle.settled_histories.proofs.Rest.{is_after_start}
use Rattle.settled_histories.proofs.Promoted.{sent_after_start}

abbrev pub is_coming : List EnteredCall → List Entry → ℕ → Bool
is_coming ks h e = (is_under_way h && is_handed (handover h) e) || (has is_promoted h && has (is_place_of e) (waiting ks h))

abbrev pub AreComing : List EnteredCall → List Entry → Type 0
AreComing ks h =
    has is_decision h ≡ false → (e : EnlNo) → has (is_sent_on (Enl e) Up ENLIST) h ≡ true → has (is_got_on (Enl e) Down ENLISTED) h ≡ false → is_coming ks h e.value ≡ true

-- an entry after which the same are coming: no call, no answer, no failed promotion, none that is over, and no ENLIST
abbrev pub is_inert : Entry → Bool
is_inert (Called n a x) = false
is_inert (Answered n x) = false
is_inert PromotionFailed = false
is_inert (Promoted u c) = false
is_inert (Sent c Up m) = not (ENLIST m)
is_inert _ = true

not_sent : (e : EnlNo) (x : Entry) (h : List Entry) → is_inert x ≡ true → has (is_sent_on (Enl e) Up ENLIST) (x ∷ h) ≡ true → has (is_sent_on (Enl e) Up ENLIST) h ≡ true
not_sent e (Sent c Up m) h n k =
    or_case (same_connection (Enl e) c && true && ENLIST m) (has (is_sent_on (Enl e) Up ENLIST) h) (λ a. absurd (not_both (ENLIST m) (and_right (same_connection (Enl e) c && true) (ENLIST m) a) (not_true (ENLIST m) n)))
    (λ a. a) k
not_sent e (Sent c Down m) h n k = off_way (same_connection (Enl e) c) (ENLIST m) (has (is_sent_on (Enl e) Up ENLIST) h) k
  where
    off_way : (a b r : Bool) → ((a && false && b) || r) ≡ true → r ≡ true
    off_way true b r k = k
    off_way false b r k = k
not_sent e (Called m a x) h n k = absurd cc
not_sent e _ h n k = k

still_coming : (ks : List EnteredCall) (x : Entry) (h : List Entry) (e : EnlNo) → is_inert x ≡ true → always is_after_start (x ∷ h) ≡ true → has (is_sent_on (Enl e) Up ENLIST) h ≡ true → is_coming ks h e.value ≡ true
    → is_coming ks (x ∷ h) e.value ≡ true
still_coming ks (Called n a x) h e i b s k = absurd cc
still_coming ks (Answered n x) h e i b s k = absurd cc
still_coming ks PromotionFailed h e i b s k = absurd cc
still_coming ks (Promoted u c) h e i b s k = absurd cc
still_coming ks (Promoting c) h e i b s k =
    absurd
    (not_both (has is_promoting h) (sent_after_start (Enl e) Up ENLIST h (and_right (not (has is_promoting h)) (always is_after_start h) b) s)
    (not_true (has is_promoting h) (and_left (not (has is_promoting h)) (always is_after_start h) b)))
still_coming ks x h e i b s k = k

pub inert_coming : (ks : List EnteredCall) (x : Entry) (h : List Entry) → is_inert x ≡ true → always is_after_start (x ∷ h) ≡ true → AreComing ks h → AreComing ks (x ∷ h)
inert_coming ks x h i b j = λ d e s g.
    let old = not_sent e x h i s in
    still_coming ks x h e i b old (j (or_second (is_decision x) (has is_decision h) d) e old (or_second (is_got_on (Enl e) Down ENLISTED x) (has (is_got_on (Enl e) Down ENLISTED) h) g))

pub after_start_onto : (h es : List Entry) → always is_after_start (onto h es) ≡ true → always is_after_start h ≡ true
after_start_onto h [] b = b
after_start_onto h (x ∷ es) b = and_right (is_after_start h x) (always is_after_start h) (after_start_onto (x ∷ h) es b)

pub list_coming : (ks : List EnteredCall) (h es : List Entry) → each is_inert es ≡ true → always is_after_start (onto h es) ≡ true → AreComing ks h → AreComing ks (onto h es)
list_coming ks h [] i b j = j
list_coming ks h (x ∷ es) i b j =
    list_coming ks (x ∷ h) es (and_right (is_inert x) (each is_inert es) i) b
    (inert_coming ks x h (and_left (is_inert x) (each is_inert es) i) (after_start_onto (x ∷ h) es b) j)

-- a block that makes nothing, and decides or answers nobody
inert_of : (x : Entry) → is_plain x ≡ true → is_kept x ≡ true → is_inert x ≡ true
inert_of (Called n a x) p k = absurd cc
inert_of (Answered n x) p k = absurd cc
inert_of PromotionFailed p k = absurd cc
inert_of (Promoted u c) p k = absurd cc
inert_of (Sent c Up m) p k = p
inert_of _ p k = refl

pub block_coming : {ws : List Waiter} (ks : List EnteredCall) (h es : List Entry) → Plain es → Keeps ws es → always is_after_start (onto h es) ≡ true → AreComing ks h → AreComing ks (onto h es)
block_coming ks h es p k b j = λ d. by (has is_decision es) (each is_kept es) (or_first (has is_decision es) (has is_decision h) (sym (has-onto is_decision h es) ∙ d)) k.proof refl d
  where
    by : (a c : Bool) → a ≡ false → (a || c) ≡ true → each is_kept es ≡ c → AreComing ks (onto h es)
    by true c n q e = absurd cc
    by false true n q e = list_coming ks h es (each_both is_plain is_kept is_inert inert_of es p.proof e) b j
    by false false n q e = absurd cc

-- The handover's ENLIST is sent.
pub sent_coming : (ks : List EnteredCall) (t : ℕ) (f : EnlNo) (r : RmNo) (h : List Entry) → is_coming ks h f.value ≡ true → AreComing ks h → AreComing ks (Sent (Enl f) Up (EnlistEnlist (info t f r)) ∷ h)
sent_coming ks t f r h c j = λ d e s g.
    or_case ((e.value == f.value) && true && true) (has (is_sent_on (Enl e) Up ENLIST) h)
    (λ q. subst (λ n. is_coming ks h n ≡ true) (sym (eqb-true e.value f.value (and_left (e.value == f.value) true (and_left ((e.value == f.value) && true) true q)))) c) (λ q. j d e q g) s

pub managed_coming : (ks : List EnteredCall) (t : ℕ) (h : List Entry) (e : EnlNo) (ms : List (EnlNo × RmNo)) → is_coming ks h e.value ≡ true → AreComing ks h → AreComing ks (onto h (by_manager (enlist_sent t) ms e))
managed_coming ks t h e [] c j = j
managed_coming ks t h e (m ∷ ms) c j = step (e.value == m.0.value) (managed_coming ks t h e ms c j)
  where
    step : (b : Bool) → AreComing ks (onto h (by_manager (enlist_sent t) ms e)) → AreComing ks (onto h (if b then enlist_sent t e m.1 else by_manager (enlist_sent t) ms e))
    step true k = sent_coming ks t e m.1 h c j
    step false k = k
