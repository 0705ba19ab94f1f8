-- How the transactions of a trace follow the log: each of which the coordinator knows stands stopped exactly where the log is, the others never stopped, and none has more stops and
-- restarts than the log.
use Rattle.std.proofs.Common.{◌≡◌, ◌≤◌, ◌==◌, ℕ, suc, Bool, true, false, ◌&&◌, ◌||◌, not, List, [], ◌∷◌, nat_le, refl, ap, sym, subst, ◌∙◌, arith}
use Rattle.std.proofs.lemmas.Bool.Decides.{nat_tests}
use Rattle.dtx_values.specs.declared.entry.Entry.{Entry}
use Rattle.dtx_values.specs.declared.entry.Entry.TheVariants.{LogWord, Restarted, Stopped}
use Rattle.dtx_values.specs.declared.entry.LogNote.TheVariants.{Opened}
use Rattle.dtx_values.specs.declared.number.ActorNo.{ActorNo}
use Rattle.dtx_values.specs.declared.number.TxNo.{TxNo}
use Rattle.dtx_values.specs.declared.trace.Place.TheVariants.{Context, Log, Transaction}
use Rattle.dtx_values.specs.Table.{how_many}
use Rattle.dtx_model.specs.Words.{each, has, onto, same}
use Rattle.dtx_model.specs.Wires.{is_stopped}
use Rattle.dtx_model.specs.Caused.{is_begin_sent}
use Rattle.dtx_model.specs.Traces.{Placed, history, noted, placed}
use Rattle.dtx_model.specs.AtLog.{at_log, follow_log, follows_log, is_hit, is_known, is_log, is_log_up, is_opened, is_restart, is_up_by, transactions}
use Rattle.dtx_model.proofs.Bools.{and_both, not_both, or_second}
use Rattle.dtx_model.proofs.Histories.{entries-other, history-noted, history-other, history-same}
use Rattle.dtx_model.proofs.Reading.{each-onto, has-onto}
use Rattle.script_histories.proofs.PutAt.{one_more}
use Rattle.script_histories.proofs.SteadyBlocks.{is_steady, none_stops, steady_restarts, steady_stopped, steady_stops, steady_unstopped}
use Rattle.dtx_model.specs.Tied.{is_stop}

-- a history follows a log that is up or isn't, with so many stops and openings
pub record FollowsAt (up : Bool) (stops opens : ℕ) (h : List Entry) : Type 0 where
  pub unknown : has is_begin_sent h ≡ false → each is_steady h ≡ true
  pub halted : has is_begin_sent h ≡ true → is_stopped h ≡ not up
  pub fewer_stops : how_many is_stop h ≤ stops
  pub fewer_restarts : how_many is_restart h ≤ opens

-- A block without stops and restarts, that sends BEGIN only where the log is up;
pub at_block : (up : Bool) (s o : ℕ) (h es : List Entry) → each is_steady es ≡ true → (has is_begin_sent es ≡ true → up ≡ true) → FollowsAt up s o h → FollowsAt up s o (onto h es)
at_block up s o h es k b f = record {
  unknown =
      λ n. each-onto is_steady h es
      ∙ and_both (each is_steady es) (each is_steady h) k (f.unknown (or_second (has is_begin_sent es) (has is_begin_sent h) (sym (has-onto is_begin_sent h es) ∙ n)));
  halted = λ t. steady_stopped h es k ∙ by (has is_begin_sent h) refl (sym (has-onto is_begin_sent h es) ∙ t);
  fewer_stops = subst (λ n. n ≤ s) (sym (steady_stops h es k)) f.fewer_stops;
  fewer_restarts = subst (λ n. n ≤ o) (sym (steady_restarts h es k)) f.fewer_restarts;
}
  where
    last : (a c : Bool) → c ≡ false → (a || c) ≡ true → a ≡ true
    last true c n t = refl
    last false c n t = absurd (not_both c t n)

    by : (c : Bool) → has is_begin_sent h ≡ c → (has is_begin_sent es || has is_begin_sent h) ≡ true → is_stopped h ≡ not up
    by true e t = f.halted e
    by false e t = steady_unstopped h (f.unknown e) ∙ ap not (sym (b (last (has is_begin_sent es) (has is_begin_sent h) e t)))

-- one that sends BEGIN while the log isn't up, and a stop right after it;
pub at_begun : (up : Bool) (s o : ℕ) (h es : List Entry) → each is_steady es ≡ true → has is_begin_sent es ≡ true → has is_begin_sent h ≡ false → up ≡ false → 1 ≤ s → FollowsAt up s o h
    → FollowsAt up s o (Stopped ∷ onto h es)
at_begun up s o h es k b n u one f =
    let all = f.unknown n in
    let none : how_many is_stop (onto h es) ≡ 0 = steady_stops h es k ∙ none_stops h all in
    record {
      unknown = λ m. absurd (not_both (has is_begin_sent (onto h es)) (has-onto is_begin_sent h es ∙ ap (λ c. c || has is_begin_sent h) b) m);
      halted = λ t. ap not (sym u);
      fewer_stops = omega (arith, none, one);
      fewer_restarts = subst (λ n. n ≤ o) (sym (steady_restarts h es k)) f.fewer_restarts;
    }

-- a stop of the log, which hits those that are known and not stopped;
pub at_stop : (up : Bool) (s o : ℕ) (h : List Entry) → FollowsAt up s o h → FollowsAt false (suc s) o (one_more (has is_begin_sent h && not (is_stopped h)) Stopped h)
at_stop up s o h f = by (has is_begin_sent h) (is_stopped h) refl refl
  where
    by : (b c : Bool) → has is_begin_sent h ≡ b → is_stopped h ≡ c → FollowsAt false (suc s) o (one_more (b && not c) Stopped h)
    by true true e g = let few = f.fewer_stops in record { unknown = f.unknown; halted = λ t. g; fewer_stops = omega (arith, few); fewer_restarts = f.fewer_restarts }
    by true false e g = let few = f.fewer_stops in record { unknown = λ n. absurd (not_both (has is_begin_sent h) e n); halted = λ t. refl; fewer_stops = omega (arith, few); fewer_restarts = f.fewer_restarts }
    by false c e g = let few = f.fewer_stops in record { unknown = f.unknown; halted = λ t. absurd (not_both (has is_begin_sent h) t e); fewer_stops = omega (arith, few); fewer_restarts = f.fewer_restarts }

-- and an opening of one that isn't up, which starts those that are known.
pub at_opening : (s o : ℕ) (found : Bool) (h : List Entry) → FollowsAt false s o h → FollowsAt true s (suc o) (one_more (has is_begin_sent h) (Restarted found) h)
at_opening s o found h f = by (has is_begin_sent h) refl
  where
    by : (b : Bool) → has is_begin_sent h ≡ b → FollowsAt true s (suc o) (one_more b (Restarted found) h)
    by true e = let few = f.fewer_restarts in record { unknown = λ n. absurd (not_both (has is_begin_sent h) e n); halted = λ t. refl; fewer_stops = f.fewer_stops; fewer_restarts = omega (arith, few) }
    by false e = let few = f.fewer_restarts in record { unknown = f.unknown; halted = λ t. absurd (not_both (has is_begin_sent h) t e); fewer_stops = f.fewer_stops; fewer_restarts = omega (arith, few) }

-- each transaction of the trace follows the log with these entries; and where it isn't up, it was stopped
pub record FollowsBy (l : List Entry) (T : List Placed) : Type 0 where
  pub at : (t : TxNo) → FollowsAt (is_up_by l) (how_many is_stop l) (how_many is_opened l) (history t.value T)
  pub down : is_up_by l ≡ false → 1 ≤ how_many is_stop l

abbrev pub Follows : List Placed → Type 0
Follows T = FollowsBy (at_log T) T

-- So the trace follows its log.
every : {A : Type 0} (p : A → Bool) → ((x : A) → p x ≡ true) → (xs : List A) → each p xs ≡ true
every p f [] = refl
every p f (x ∷ xs) = and_both (p x) (each p xs) (f x) (every p f xs)

below : (m n : ℕ) → m ≤ n → nat_le m n ≡ true
below m n k = grind (arith, nat_tests)

pub follows_one : (T : List Placed) → Follows T → (t : TxNo) → follows_log T t ≡ true
follows_one T f t =
    let h = history t.value T in
    let g = f.at t in
    and_both (nat_le (how_many is_stop h) (how_many is_stop (at_log T)) && nat_le (how_many is_restart h) (how_many is_opened (at_log T))) _
    (and_both (nat_le (how_many is_stop h) (how_many is_stop (at_log T))) (nat_le (how_many is_restart h) (how_many is_opened (at_log T))) (below (how_many is_stop h) (how_many is_stop (at_log T)) g.fewer_stops)
    (below (how_many is_restart h) (how_many is_opened (at_log T)) g.fewer_restarts))
    (by (is_known T t) (is_stopped h) (not (is_log_up T)) g.halted)
  where
    by : (k a b : Bool) → (k ≡ true → a ≡ b) → (not k || same a b) ≡ true
    by false a b e = refl
    by true true true e = refl
    by true true false e = absurd (not_both false (sym (e refl)) refl)
    by true false true e = absurd (not_both false (e refl) refl)
    by true false false e = refl

pub follows_all : (T : List Placed) → Follows T → follow_log T ≡ true
follows_all T f = every (follows_log T) (follows_one T f) (transactions T)

-- before the first entry
pub none_follows : Follows []
none_follows = record { at = λ t. record { unknown = λ n. refl; halted = λ k. absurd cc; fewer_stops = omega arith; fewer_restarts = omega arith }; down = λ k. absurd cc }

-- What stands at the log after what is put there or elsewhere.
pub log-placed : (t : TxNo) (es : List Entry) (T : List Placed) → at_log (onto T (placed t es)) ≡ at_log T
log-placed t es T = entries-other is_log (Transaction t) T es refl

pub log-noted : (a : ActorNo) (es : List Entry) (T : List Placed) → at_log (onto T (noted a es)) ≡ at_log T
log-noted a es T = entries-other is_log (Context a) T es refl

-- where the log has these entries
follows_by : (l : List Entry) (T : List Placed) → at_log T ≡ l → FollowsBy l T → Follows T
follows_by l T e f = subst (λ m. FollowsBy m T) (sym e) f

-- a block of a transaction
pub block_follows : (t : TxNo) (es : List Entry) (T : List Placed) → each is_steady es ≡ true → (has is_begin_sent es ≡ true → is_log_up T ≡ true) → Follows T → Follows (onto T (placed t es))
block_follows t es T k b f = follows_by (at_log T) (onto T (placed t es)) (log-placed t es T) (record { at = λ u. by u (u.value == t.value) refl; down = f.down })
  where
    by : (u : TxNo) (c : Bool) → (u.value == t.value) ≡ c → FollowsAt (is_log_up T) (how_many is_stop (at_log T)) (how_many is_opened (at_log T)) (history u.value (onto T (placed t es)))
    by u true e =
        subst (FollowsAt (is_log_up T) (how_many is_stop (at_log T)) (how_many is_opened (at_log T))) (sym (history-same u.value t T es e))
        (at_block (is_log_up T) (how_many is_stop (at_log T)) (how_many is_opened (at_log T)) (history u.value T) es k b (f.at u))
    by u false e = subst (FollowsAt (is_log_up T) (how_many is_stop (at_log T)) (how_many is_opened (at_log T))) (sym (history-other u.value t T es e)) (f.at u)

-- one that sends BEGIN while the log isn't up
pub begun_follows : (t : TxNo) (es : List Entry) (T : List Placed) → each is_steady es ≡ true → has is_begin_sent es ≡ true → has is_begin_sent (history t.value T) ≡ false → is_log_up T ≡ false → Follows T
    → Follows (onto (onto T (placed t es)) (placed t (Stopped ∷ [])))
begun_follows t es T k b n d f =
    follows_by (at_log T) (onto (onto T (placed t es)) (placed t (Stopped ∷ []))) (log-placed t es T) (record { at = λ u. by u (u.value == t.value) refl; down = f.down })
  where
    by : (u : TxNo) (c : Bool) → (u.value == t.value) ≡ c
        → FollowsAt (is_log_up T) (how_many is_stop (at_log T)) (how_many is_opened (at_log T)) (history u.value (onto (onto T (placed t es)) (placed t (Stopped ∷ []))))
    by u true e =
        let same : t.value ≡ u.value = grind (arith, nat_tests) in
        subst (FollowsAt (is_log_up T) (how_many is_stop (at_log T)) (how_many is_opened (at_log T)))
        (sym (history-same u.value t (onto T (placed t es)) (Stopped ∷ []) e ∙ ap (λ h. Stopped ∷ h) (history-same u.value t T es e)))
        (at_begun (is_log_up T) (how_many is_stop (at_log T)) (how_many is_opened (at_log T)) (history u.value T) es k b (subst (λ v. has is_begin_sent (history v T) ≡ false) same n) d (f.down d) (f.at u))
    by u false e =
        subst (FollowsAt (is_log_up T) (how_many is_stop (at_log T)) (how_many is_opened (at_log T)))
        (sym (history-other u.value t (onto T (placed t es)) (Stopped ∷ []) e ∙ history-other u.value t T es e)) (f.at u)

-- what is written at a context
pub noted_follows : (a : ActorNo) (es : List Entry) (T : List Placed) → Follows T → Follows (onto T (noted a es))
noted_follows a es T f =
    follows_by (at_log T) (onto T (noted a es)) (log-noted a es T)
    (record { at = λ u. subst (FollowsAt (is_log_up T) (how_many is_stop (at_log T)) (how_many is_opened (at_log T))) (sym (history-noted u.value a T es)) (f.at u); down = f.down })

-- an entry at the log that neither stops it nor opens it
abbrev pub is_calm_there : Entry → Bool
is_calm_there Stopped = false
is_calm_there (LogWord (Opened n)) = false
is_calm_there _ = true

calm_up : (x : Entry) (l : List Entry) → is_calm_there x ≡ true → is_up_by (x ∷ l) ≡ is_up_by l
calm_up Stopped l k = absurd cc
calm_up (LogWord (Opened n)) l k = absurd cc
calm_up _ l k = refl

calm_stops : (x : Entry) (l : List Entry) → is_calm_there x ≡ true → how_many is_stop (x ∷ l) ≡ how_many is_stop l
calm_stops Stopped l k = absurd cc
calm_stops _ l k = refl

calm_opens : (x : Entry) (l : List Entry) → is_calm_there x ≡ true → how_many is_opened (x ∷ l) ≡ how_many is_opened l
calm_opens (LogWord (Opened n)) l k = absurd cc
calm_opens _ l k = refl

pub up_there : (x : Entry) (T : List Placed) → is_calm_there x ≡ true → is_log_up ((Log, x) ∷ T) ≡ is_log_up T
up_there x T k = calm_up x (at_log T) k

pub there_follows : (x : Entry) (T : List Placed) → is_calm_there x ≡ true → Follows T → Follows ((Log, x) ∷ T)
there_follows x T k f = record {
  at =
      λ u. subst (λ n. FollowsAt (is_up_by (x ∷ at_log T)) (how_many is_stop (x ∷ at_log T)) n (history u.value T)) (sym (calm_opens x (at_log T) k))
      (subst (λ n. FollowsAt (is_up_by (x ∷ at_log T)) n (how_many is_opened (at_log T)) (history u.value T)) (sym (calm_stops x (at_log T) k))
      (subst (λ b. FollowsAt b (how_many is_stop (at_log T)) (how_many is_opened (at_log T)) (history u.value T)) (sym (calm_up x (at_log T) k)) (f.at u)));
  down = λ d. subst (λ n. 1 ≤ n) (sym (calm_stops x (at_log T) k)) (f.down (sym (calm_up x (at_log T) k) ∙ d));
}

-- the log stopped: `stopped` stands there, and in each transaction that it hits
pub record IsHalt (T U : List Placed) : Type 0 where
  pub there : at_log U ≡ Stopped ∷ at_log T
  pub at : (u : TxNo) → history u.value U ≡ one_more (is_hit T u) Stopped (history u.value T)

pub halt_follows : (T U : List Placed) → IsHalt T U → Follows T → Follows U
halt_follows T U q f =
    follows_by (Stopped ∷ at_log T) U q.there
    (record {
      at =
          λ u. subst (FollowsAt false (suc (how_many is_stop (at_log T))) (how_many is_opened (at_log T))) (sym (q.at u))
          (at_stop (is_log_up T) (how_many is_stop (at_log T)) (how_many is_opened (at_log T)) (history u.value T) (f.at u));
      down = λ d. omega arith;
    })

-- it was opened again: each transaction of which the coordinator knows starts again
pub record IsOpening (found : ℕ → Bool) (records : ℕ) (T U : List Placed) : Type 0 where
  pub there : at_log U ≡ LogWord (Opened records) ∷ at_log T
  pub at : (u : TxNo) → history u.value U ≡ one_more (is_known T u) (Restarted (found u.value)) (history u.value T)

pub opening_follows : (found : ℕ → Bool) (n : ℕ) (T U : List Placed) → IsOpening found n T U → is_log_up T ≡ false → Follows T → Follows U
opening_follows found n T U q d f =
    follows_by (LogWord (Opened n) ∷ at_log T) U q.there
    (record {
      at =
          λ u. subst (FollowsAt true (how_many is_stop (at_log T)) (suc (how_many is_opened (at_log T)))) (sym (q.at u))
          (at_opening (how_many is_stop (at_log T)) (how_many is_opened (at_log T)) (found u.value) (history u.value T)
          (subst (λ b. FollowsAt b (how_many is_stop (at_log T)) (how_many is_opened (at_log T)) (history u.value T)) d (f.at u)));
      down = λ d. absurd cc;
    })
