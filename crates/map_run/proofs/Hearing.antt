-- What a map is after what it heard, key by key.
use Rattle.std.proofs.Common.{ℕ, ◌≡◌, ◌==◌, ◌&&◌, ◌||◌, Bool, true, false, cond, not, List, [], ◌∷◌, map, Option, Some, None, refl, sym, subst, ap, ◌∙◌}
use Rattle.dtx_values.specs.declared.note.Note.{Note}
use Rattle.dtx_values.specs.declared.note.Note.TheVariants.{Prepare, Commit, Rollback}
use Rattle.dtx_values.specs.declared.script.Line.{Line}
use Rattle.dtx_model.specs.Words.{has}
use Rattle.dtx_model.proofs.Bools.{not_both, or_first, or_second}
use Rattle.heard_notes.specs.Heard.{HeardNote, Reaches}
use Rattle.tx_map.specs.declared.write.LiveWrite.{LiveWrite}
use Rattle.tx_map.specs.Live.{MapState, Pair, has_live, is_of, others}
use Rattle.tx_map.specs.Notes.{GivesNote, after_note, marked}
use Rattle.map_run.proofs.Keys.{same_pairs, Held, KeyState, Rises, key-after, key_after, key_at, key_state, rises_after}

-- the pair heard this note
abbrev pub same_pair : Pair → HeardNote → Bool
same_pair p h = (p.0.value == h.transaction.value) && (p.1.value == h.enlistment.value)

abbrev pub is_commit_note : Note → Bool
is_commit_note Commit = true
is_commit_note _ = false

abbrev pub is_rollback_note : Note → Bool
is_rollback_note Rollback = true
is_rollback_note _ = false

abbrev pub hears_commit_note : Pair → HeardNote → Bool
hears_commit_note p h = same_pair p h && is_commit_note h.note

abbrev pub hears_rollback_note : Pair → HeardNote → Bool
hears_rollback_note p h = same_pair p h && is_rollback_note h.note

-- a key after what was heard, the newest note first
abbrev pub key_heard : List HeardNote → KeyState → KeyState
key_heard [] s = s
key_heard (h ∷ hs) s = key_after (h.transaction, h.enlistment) h.note (key_heard hs s)

-- the map that is reached keeps its keys in order
pub reached_rises : (s : List Line) (from to : MapState) (hs : List HeardNote) → Reaches GivesNote s from hs to → Rises from → Rises to
reached_rises s from to [] r k = subst Rises (sym r) k
reached_rises s from to (h ∷ hs) r k =
    subst Rises (sym r.3.after) (rises_after (h.transaction, h.enlistment) h.note r.0 (reached_rises s from r.0 hs r.2 k))

-- and each of its keys is what was heard of it
pub reached_key : (s : List Line) (k : ℕ) (from to : MapState) (hs : List HeardNote) → Reaches GivesNote s from hs to → Rises from → key_at k to ≡ key_heard hs (key_at k from)
reached_key s k from to [] r rises = ap (key_at k) r
reached_key s k from to (h ∷ hs) r rises =
    ap (key_at k) r.3.after ∙ key-after k (h.transaction, h.enlistment) h.note r.0 (reached_rises s from r.0 hs r.2 rises)
    ∙ ap (key_after (h.transaction, h.enlistment) h.note) (reached_key s k from r.0 hs r.2 rises)

-- a key without a live write stays
none_after : (p : Pair) (n : Note) (b : Option ℕ) → key_after p n (key_state None b) ≡ key_state None b
none_after p Commit b = refl
none_after p Rollback b = refl
none_after p _ b = refl

pub none_heard : (hs : List HeardNote) (b : Option ℕ) → key_heard hs (key_state None b) ≡ key_state None b
none_heard [] b = refl
none_heard (h ∷ hs) b = ap (key_after (h.transaction, h.enlistment) h.note) (none_heard hs b) ∙ none_after (h.transaction, h.enlistment) h.note b

-- a key with a live write, which nothing committed before: it is in the base where the write's pair heard Commit, and gone where it heard Rollback
abbrev pub outcome_of : Held → Bool → Bool → KeyState
outcome_of w true r = key_state None w.1
outcome_of w false true = key_state None None
outcome_of w false false = key_state (Some w) None

one_more : (w : Held) (h : HeardNote) (c r : Bool) → ((hears_commit_note w.0 h || c) && (hears_rollback_note w.0 h || r)) ≡ false
    → key_after (h.transaction, h.enlistment) h.note (outcome_of w c r) ≡ outcome_of w (hears_commit_note w.0 h || c) (hears_rollback_note w.0 h || r)
one_more w h c r n = by h.note (same_pair w.0 h) c r refl n
  where
    by : (n : Note) (b c r : Bool) → same_pair w.0 h ≡ b → (((b && is_commit_note n) || c) && ((b && is_rollback_note n) || r)) ≡ false
        → key_after (h.transaction, h.enlistment) n (outcome_of w c r) ≡ outcome_of w ((b && is_commit_note n) || c) ((b && is_rollback_note n) || r)
    by Commit true true r e d = none_after (h.transaction, h.enlistment) Commit w.1
    by Commit true false true e d = absurd cc
    by Commit true false false e d = rw e refl
    by Commit false true r e d = refl
    by Commit false false true e d = refl
    by Commit false false false e d = rw e refl
    by Rollback true true r e d = absurd cc
    by Rollback true false true e d = refl
    by Rollback true false false e d = rw e refl
    by Rollback false true r e d = refl
    by Rollback false false true e d = refl
    by Rollback false false false e d = rw e refl
    by _ true c r e d = refl
    by _ false c r e d = refl

pub held_heard : (hs : List HeardNote) (w : Held) → (has (hears_commit_note w.0) hs && has (hears_rollback_note w.0) hs) ≡ false
    → key_heard hs (key_state (Some w) None) ≡ outcome_of w (has (hears_commit_note w.0) hs) (has (hears_rollback_note w.0) hs)
held_heard [] w n = refl
held_heard (h ∷ hs) w n =
    ap (key_after (h.transaction, h.enlistment) h.note) (held_heard hs w (less (hears_commit_note w.0 h) (hears_rollback_note w.0 h) (has (hears_commit_note w.0) hs) (has (hears_rollback_note w.0) hs) n))
    ∙ one_more w h (has (hears_commit_note w.0) hs) (has (hears_rollback_note w.0) hs) n
  where
    less : (a b c r : Bool) → ((a || c) && (b || r)) ≡ false → (c && r) ≡ false
    less a b false r n = refl
    less true true true true n = n
    less true false true true n = n
    less false true true true n = n
    less false false true true n = n
    less a b true false n = refl

-- whether a pair has a live write, after a note that isn't its own end
live-marked : (p q : Pair) (ws : List LiveWrite) → has_live p (map (marked q) ws) ≡ has_live p ws
live-marked p q [] = refl
live-marked p q (w ∷ ws) = ap (λ b. is_of p w || b) (live-marked p q ws)

live-others : (p q : Pair) (ws : List LiveWrite) → ((w : LiveWrite) → is_of p w ≡ true → is_of q w ≡ true → ⊥) → has_live p (others q ws) ≡ has_live p ws
live-others p q [] n = refl
live-others p q (w ∷ ws) n = by (is_of q w) (is_of p w) refl refl (live-others p q ws n)
  where
    by : (b a : Bool) → is_of q w ≡ b → is_of p w ≡ a → has_live p (others q ws) ≡ has_live p ws → has_live p (cond (not b) (w ∷ others q ws) (others q ws)) ≡ (a || has_live p ws)
    by true true e d h = absurd (n w d e)
    by true false e d h = h
    by false a e d h = ap (λ x. x || has_live p (others q ws)) d ∙ ap (λ x. a || x) h

-- another pair's writes aren't the pair's
apart : (p : Pair) (h : HeardNote) (w : LiveWrite) → same_pair p h ≡ false → is_of p w ≡ true → is_of (h.transaction, h.enlistment) w ≡ true → ⊥
apart p h w n a b = not_both (same_pair p h) (same_pairs (h.transaction, h.enlistment) p w b a) n

live_after : (p : Pair) (h : HeardNote) (m : MapState) → hears_commit_note p h ≡ false → hears_rollback_note p h ≡ false → has_live p (after_note m (h.transaction, h.enlistment) h.note).live ≡ has_live p m.live
live_after p h m c r = by h.note (same_pair p h) refl c r
  where
    by : (n : Note) (b : Bool) → same_pair p h ≡ b → (b && is_commit_note n) ≡ false → (b && is_rollback_note n) ≡ false → has_live p (after_note m (h.transaction, h.enlistment) n).live ≡ has_live p m.live
    by Prepare b e c r = live-marked p (h.transaction, h.enlistment) m.live
    by Commit true e c r = absurd cc
    by Commit false e c r = live-others p (h.transaction, h.enlistment) m.live (λ w a d. apart p h w e a d)
    by Rollback true e c r = absurd cc
    by Rollback false e c r = live-others p (h.transaction, h.enlistment) m.live (λ w a d. apart p h w e a d)
    by _ b e c r = refl

-- a pair that heard neither Commit nor Rollback has what it had
pub reached_live : (s : List Line) (p : Pair) (from to : MapState) (hs : List HeardNote) → Reaches GivesNote s from hs to → has (hears_commit_note p) hs ≡ false → has (hears_rollback_note p) hs ≡ false
    → has_live p to.live ≡ has_live p from.live
reached_live s p from to [] r c b = ap (λ (m : MapState). has_live p m.live) r
reached_live s p from to (h ∷ hs) r c b =
    ap (λ (m : MapState). has_live p m.live) r.3.after ∙ live_after p h r.0 (or_first (hears_commit_note p h) (has (hears_commit_note p) hs) c) (or_first (hears_rollback_note p h) (has (hears_rollback_note p) hs) b)
    ∙ reached_live s p from r.0 hs r.2 (or_second (hears_commit_note p h) (has (hears_commit_note p) hs) c) (or_second (hears_rollback_note p h) (has (hears_rollback_note p) hs) b)
