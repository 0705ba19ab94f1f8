-- Which entries may follow in a block without opening a connection: a message that goes where its connection was opened and its sender didn't see the end, and all that
-- changes nothing of this. Such a block sends nothing that may not be sent.
use Rattle.std.proofs.Common.{◌≡◌, Bool, true, false, ◌&&◌, ◌||◌, List, [], ◌∷◌, ◌++◌, map, Option, Some, None, is_some, refl, sym, ◌∙◌, subst}
use Rattle.std.specs.Prelude.{not, if◌then◌else◌}
use Rattle.std.specs.List.{flat_map}
use Rattle.std.proofs.lemmas.List.Folds.{list_all-append, list_any-append}
use Rattle.dtx_values.specs.declared.entry.Ask.TheVariants.{Promote}
use Rattle.dtx_values.specs.declared.entry.Entry.{Entry}
use Rattle.dtx_values.specs.declared.entry.Entry.TheVariants.{Asked, Called, Down as End, Enlisted, Got, Promoted, Promoting, Sent, Stopped}
use Rattle.dtx_values.specs.declared.message.Conn.{Conn}
use Rattle.dtx_values.specs.declared.message.Dir.{Dir}
use Rattle.dtx_values.specs.declared.message.Dir.TheVariants.{Up, Down}
use Rattle.dtx_values.specs.declared.message.Message.{Message}
use Rattle.dtx_values.specs.Class.{is_promotable}
use Rattle.dtx_values.specs.Lines.{has_line, is_opening}
use Rattle.dtx_model.specs.Entries.{is_decision}
use Rattle.dtx_model.specs.Frames.{is_valid}
use Rattle.dtx_model.specs.Promotes.{is_promoting}
use Rattle.dtx_model.specs.Wires.{begins_ended, ended_after, ends, is_ended, is_stopped, loses, lost_since, opens, same_connection}
use Rattle.dtx_model.specs.Words.{each, has, onto}
use Rattle.oletx_session.specs.Traffic.{opposite}
use Rattle.dtx_model.proofs.Bools.{and_both, and_left, and_never, and_right, or_right}
use Rattle.world_laws.specs.Carried.{are_sendable, is_sendable}
use Rattle.dtx_model.specs.Observed.{is_promotion_failed}

-- the connection was opened, and whoever sends in this direction didn't see its end
abbrev pub can_send : Conn → Dir → List Entry → Bool
can_send c d h = is_some (lost_since c h) && not (is_ended c (opposite d) h)

-- an entry that may follow in a block after this history
abbrev pub is_apt : List Entry → Entry → Bool
is_apt h (Sent c d m) = is_valid m && has_line c d m && not (is_opening c m) && can_send c d h
is_apt h (Asked e Promote) = has is_promoting h
is_apt h (Enlisted e c) = not (is_promotable c)
is_apt h (Got c d m) = false
is_apt h (End c d) = false
is_apt h Stopped = false
is_apt h (Called n a x) = false
is_apt h (Promoting c) = false
is_apt h (Promoted u c) = false
is_apt h _ = true

-- each may follow, and where a promotion fails in the block, something is decided in it
pub record Apt (h es : List Entry) : Type 0 where
  pub proof : each (is_apt h) es ≡ true
  pub fails : (has is_decision es || not (has is_promotion_failed es)) ≡ true

-- an empty block
pub apt_none : {h : List Entry} → Apt h []
apt_none = record { proof = refl; fails = refl }

-- one more entry first
pub apt_cons : {h : List Entry} (x : Entry) {es : List Entry} → is_apt h x ≡ true → is_promotion_failed x ≡ false → Apt h es → Apt h (x ∷ es)
apt_cons {h} x {es} p f q = record { proof = and_both (is_apt h x) (each (is_apt h) es) p q.proof; fails = by (is_decision x) (has is_decision es) (is_promotion_failed x) (has is_promotion_failed es) f q.fails }
  where
    by : (a b c d : Bool) → c ≡ false → (b || not d) ≡ true → ((a || b) || not (c || d)) ≡ true
    by true b c d e k = refl
    by false b true d e k = absurd cc
    by false b false d e k = k

-- one of two blocks
pub apt_if : {h : List Entry} (b : Bool) {x y : List Entry} → Apt h x → Apt h y → Apt h (if b then x else y)
apt_if true p q = p
apt_if false p q = q

-- one of two blocks, by the test between them
pub apt_when : {h : List Entry} (b : Bool) {x y : List Entry} → (b ≡ true → Apt h x) → (b ≡ false → Apt h y) → Apt h (if b then x else y)
apt_when true p q = p refl
apt_when false p q = q refl

-- two blocks, one after the other
pub apt_join : {h x y : List Entry} → Apt h x → Apt h y → Apt h (x ++ y)
apt_join {h} {x} {y} p q =
    record {
      proof = list_all-append (is_apt h) x y ∙ and_both (each (is_apt h) x) (each (is_apt h) y) p.proof q.proof;
      fails =
          by (has is_decision x) (has is_decision y) (has is_promotion_failed x) (has is_promotion_failed y) (has is_decision (x ++ y)) (has is_promotion_failed (x ++ y)) (list_any-append is_decision x y) (list_any-append is_promotion_failed x y) p.fails q.fails;
    }
  where
    by : (a b c d u v : Bool) → u ≡ (a || b) → v ≡ (c || d) → (a || not c) ≡ true → (b || not d) ≡ true → (u || not v) ≡ true
    by true b c d true v e f p q = refl
    by true b c d false v e f p q = absurd cc
    by false true c d true v e f p q = refl
    by false true c d false v e f p q = absurd cc
    by false false true d u v e f p q = absurd cc
    by false false false true u v e f p q = absurd cc
    by false false false false u true e f p q = absurd cc
    by false false false false true false e f p q = refl
    by false false false false false false e f p q = refl

-- a block of one entry
pub apt_one : {h : List Entry} (x : Entry) → is_apt h x ≡ true → is_promotion_failed x ≡ false → Apt h (x ∷ [])
apt_one x p f = apt_cons x p f apt_none

-- an entry for each item
pub apt_map : {h : List Entry} {A : Type 0} (f : A → Entry) → ((a : A) → is_apt h (f a) ≡ true) → ((a : A) → is_promotion_failed (f a) ≡ false) → (xs : List A) → Apt h (map f xs)
apt_map f p q [] = apt_none
apt_map f p q (x ∷ xs) = apt_cons (f x) (p x) (q x) (apt_map f p q xs)

-- a block for each item
pub apt_flat : {h : List Entry} {A : Type 0} (f : A → List Entry) → ((a : A) → Apt h (f a)) → (xs : List A) → Apt h (flat_map f xs)
apt_flat f p [] = apt_none
apt_flat f p (x ∷ xs) = apt_join (p x) (apt_flat f p xs)

-- a message that may follow
pub apt_sent : (h : List Entry) (c : Conn) (d : Dir) (m : Message) → is_valid m ≡ true → has_line c d m ≡ true → is_opening c m ≡ false → can_send c d h ≡ true → is_apt h (Sent c d m) ≡ true
apt_sent h c d m v l o s = by (is_valid m) (has_line c d m) (is_opening c m) (can_send c d h) v l o s
  where
    by : (v l o s : Bool) → v ≡ true → l ≡ true → o ≡ false → s ≡ true → (v && l && not o && s) ≡ true
    by true true false s p q r t = t
    by true true true s p q r t = absurd cc
    by true false o s p q r t = absurd cc
    by false l o s p q r t = absurd cc

-- An entry that may follow opens nothing.
pub unopening : (c : Conn) (h : List Entry) (x : Entry) → is_apt h x ≡ true → opens c x ≡ false
unopening c h (Sent e Up m) k = by (same_connection c e) (is_opening e m) (is_valid m && has_line e Up m) (can_send e Up h) k
  where
    by : (s o v z : Bool) → (v && not o && z) ≡ true → (s && o) ≡ false
    by s false v z k = and_never s
    by s true true z k = absurd cc
    by s true false z k = absurd cc
unopening c h (Sent e Down m) k = refl
unopening c h _ k = refl

-- Where an entry opens nothing, each connection that was opened was opened before it, and each end that the entry doesn't show was seen before it.
pub opened_same : (c : Conn) (h : List Entry) (x : Entry) → opens c x ≡ false → is_some (lost_since c (x ∷ h)) ≡ is_some (lost_since c h)
opened_same c h x n = by (opens c x) (lost_since c h) n
  where
    by : (b : Bool) (o : Option Bool) → b ≡ false
        → is_some (elim o as (λ z. Option Bool) [ Some l ↦ if b then Some (is_stopped h) else Some (l || loses c x) | None ↦ if b then Some (is_stopped h) else None ]) ≡ is_some o
    by true o n = absurd cc
    by false (Some l) n = refl
    by false None n = refl

-- an entry that neither opens it nor shows its end leaves whether its end was seen
pub ended_same : (c : Conn) (d : Dir) (h : List Entry) (x : Entry) → opens c x ≡ false → ends c d x ≡ false → is_ended c d (x ∷ h) ≡ is_ended c d h
ended_same c d h x n m = by (opens c x) (begins_ended d h) (ends c d x) n m
  where
    by : (b z e : Bool) → b ≡ false → e ≡ false → ended_after b z (e || is_ended c d h) ≡ is_ended c d h
    by true z e n m = absurd cc
    by false z true n m = absurd cc
    by false z false n m = refl

-- such an entry leaves who may send there
pub can_same : (c : Conn) (d : Dir) (h : List Entry) (x : Entry) → opens c x ≡ false → ends c (opposite d) x ≡ false → can_send c d (x ∷ h) ≡ can_send c d h
can_same c d h x n m = rw (opened_same c h x n, ended_same c (opposite d) h x n m) refl

unending : (c : Conn) (d : Dir) (h : List Entry) (x : Entry) → is_apt h x ≡ true → ends c d x ≡ false
unending c d h (Got e r m) k = absurd cc
unending c d h (End e r) k = absurd cc
unending c d h Stopped k = absurd cc
unending c Up h _ k = refl
unending c Down h _ k = refl

-- so does an entry that may follow
pub can_more : (c : Conn) (d : Dir) (h : List Entry) (x : Entry) → is_apt h x ≡ true → can_send c d (x ∷ h) ≡ can_send c d h
can_more c d h x k = can_same c d h x (unopening c h x k) (unending c (opposite d) h x k)

-- what may follow may follow after another that may
pub apt_more : (h : List Entry) (y x : Entry) → is_apt h y ≡ true → is_apt h x ≡ true → is_apt (y ∷ h) x ≡ true
apt_more h y (Sent c d m) a k = subst (λ b. (is_valid m && has_line c d m && not (is_opening c m) && b) ≡ true) (sym (can_more c d h y a)) k
apt_more h y (Asked e Promote) a k = or_right (is_promoting y) (has is_promoting h) k
apt_more h y (Enlisted e c) a k = k
apt_more h y (Got c d m) a k = absurd cc
apt_more h y (End c d) a k = absurd cc
apt_more h y Stopped a k = absurd cc
apt_more h y (Called n z x) a k = absurd cc
apt_more h y (Promoting c) a k = absurd cc
apt_more h y (Promoted u c) a k = absurd cc
apt_more h y _ a k = refl

-- the same of each entry of a block
pub each_apt : (h : List Entry) (y : Entry) (es : List Entry) → is_apt h y ≡ true → each (is_apt h) es ≡ true → each (is_apt (y ∷ h)) es ≡ true
each_apt h y [] a k = refl
each_apt h y (x ∷ es) a k =
    and_both (is_apt (y ∷ h) x) (each (is_apt (y ∷ h)) es) (apt_more h y x a (and_left (is_apt h x) (each (is_apt h) es) k)) (each_apt h y es a (and_right (is_apt h x) (each (is_apt h) es) k))

-- it may be sent
pub apt_sendable : (h : List Entry) (x : Entry) → is_apt h x ≡ true → is_sendable h x ≡ true
apt_sendable h (Sent c d m) k =
    by (is_valid m) (has_line c d m) (is_opening c m) (can_send c d h) (opens c (Sent c d m)) (not _) (unopening c h (Sent c d m) k) k
  where
    by : (v l o s p n : Bool) → p ≡ false → (v && l && not o && s) ≡ true → (v && l && (if p then n else s)) ≡ true
    by v l o s true n e k = absurd cc
    by true true false s false n e k = k
    by true true true s false n e k = absurd cc
    by true false o s false n e k = absurd cc
    by false l o s false n e k = absurd cc
apt_sendable h _ k = refl

-- A block of such entries sends what may be sent.
pub block_sendable : (h es : List Entry) → each (is_apt h) es ≡ true → are_sendable h ≡ true → are_sendable (onto h es) ≡ true
block_sendable h [] a s = s
block_sendable h (x ∷ es) a s =
    let first = and_left (is_apt h x) (each (is_apt h) es) a in
    block_sendable (x ∷ h) es (each_apt h x es first (and_right (is_apt h x) (each (is_apt h) es) a)) (and_both (is_sendable h x) (are_sendable h) (apt_sendable h x first) s)
