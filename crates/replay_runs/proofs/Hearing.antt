-- What objects hear of a step: the note of a reply where they are asked for it, and what the entries of its block tell without one.
use Rattle.std.proofs.Common.{◌≡◌, ◌-◌, ℕ, Bool, true, false, not, List, [], ◌∷◌, length, Option, Some, None, refl, ap, sym, subst, ◌∙◌, if◌then◌else◌}
use Rattle.std.specs.Prelude.{IfSome, slice_index_or}
use Rattle.dtx_values.specs.declared.entry.Entry.{Entry}
use Rattle.dtx_values.specs.declared.entry.Entry.TheVariants.{Acked, Init as InitEntry, OwnerAnswered, PromoteReply, Requested, Told, Voted}
use Rattle.dtx_values.specs.declared.entry.Party.TheVariants.{Enl}
use Rattle.dtx_values.specs.declared.note.Note.{Note}
use Rattle.dtx_values.specs.declared.note.Note.TheVariants.{Init, Commit, Rollback, InDoubt}
use Rattle.dtx_values.specs.declared.note.Reply.{Reply}
use Rattle.dtx_values.specs.declared.number.EnlNo.{EnlNo}
use Rattle.dtx_values.specs.declared.number.RmNo.{RmNo}
use Rattle.dtx_values.specs.declared.number.TxNo.{TxNo}
use Rattle.dtx_values.specs.declared.script.Line.{Line}
use Rattle.dtx_values.specs.declared.trace.Place.TheVariants.{Transaction}
use Rattle.dtx_values.specs.declared.words.Outcome.TheVariants.{Committed, Aborted, InDoubt as DoubtOutcome}
use Rattle.dtx_model.specs.Caused.{Managers, Of, answers, is_manager, is_up_to, is_volatile_in, plans_of}
use Rattle.dtx_model.specs.Plans.{planned}
use Rattle.dtx_model.specs.Traces.{Placed, placed}
use Rattle.dtx_model.specs.Words.{all_of, each, onto, put}
use Rattle.dtx_model.proofs.Bools.{and_left, and_right}
use Rattle.heard_notes.specs.Heard.{HeardNote, IsHeardSo, IsTaken, Reaches, Shows, ShowsPlanned, WhereReply, commit_of, counting, heard, heard_if, is_reply, note_shown, note_told}
use Rattle.heard_notes.specs.Whose.{whose}
use Rattle.heard_notes.specs.declared.of.Of.{Of as Given}
use Rattle.heard_notes.specs.declared.of.Of.TheVariants.{Manager, Volatiles}
use Rattle.script_calls.specs.Managers.{AreManagers}
use Rattle.replay_runs.specs.Objects.{IsAsked, IsAskedIf, IsBlockOf, IsForOne, IsRepliedIn, IsReplyOf, IsTold, answers_by, fitting, is_no_reply, reply_by, told_by, told_if, volatile_by}
use Rattle.replay_runs.specs.Volatiles.{AreVolatiles}

-- The objects of the first managers.
pub listed_owned : (s : List Line) (o : Of) (n : ℕ) (ms : List (Option RmNo)) (given : Option (EnlNo × Reply)) → o ≡ Managers n → AreManagers s s ms
    → IfSome given (λ g. is_up_to n (slice_index_or ms (g.0.value - 1) None) ≡ true) → IfSome given (λ g. answers s o g.0.value ≡ true)
listed_owned s o n ms (Some g) is are here = ap (λ (p : Of). answers s p g.0.value) is ∙ ap (is_up_to n) (sym (are g.0)) ∙ here
listed_owned s o n ms None is are here = tt

-- For whom one object answers, its tables say.
who_is : (s : List Line) (o : Of) (of : Given) (ms : List (Option RmNo)) (vs : List Bool) → IsForOne s o of ms vs → (e : EnlNo) → answers_by of ms vs e.value ≡ answers s o e.value
who_is s o of ms vs f e = by of ∙ ap (λ (p : Of). answers s p e.value) (sym f.names)
  where
    by : (of : Given) → answers_by of ms vs e.value ≡ answers s (whose of) e.value
    by (Manager r) = ap (is_manager r) (f.managers e)
    by Volatiles = f.volatiles e

same_for : (s : List Line) (o : Of) (f g : Given) (ms ns : List (Option RmNo)) (vs us : List Bool) → IsForOne s o f ms vs → g ≡ f → ns ≡ ms → us ≡ vs → IsForOne s o g ns us
same_for s o f g ms ns vs us is of managers volatiles =
    record {
      names = is.names ∙ ap whose (sym of);
      managers = subst (AreManagers s s) (sym managers) is.managers;
      volatiles = subst (AreVolatiles s s) (sym volatiles) is.volatiles;
      known = ap length managers ∙ is.known;
      marked = ap length volatiles ∙ is.marked;
    }

pub one_kept : (s : List Line) (o : Of) (f g : Given) (ms ns : List (Option RmNo)) (vs us : List Bool) → IsForOne s o f ms vs → g ≡ f → ns ≡ ms → us ≡ vs → IsForOne s o g ns us
one_kept s o f g ms ns vs us is of managers volatiles = same_for s o f g ms ns vs us is of managers volatiles

-- A note that was heard, as an entry shows it.
abbrev as_heard : TxNo → Entry → Option (EnlNo × Note) → Option HeardNote
as_heard t x (Some n) = Some (record { transaction = t; enlistment = n.0; note = n.1; entry = x })
as_heard t x None = None

if_told : (t : TxNo) (x : Entry) (n : EnlNo × Note) (a b : Bool) → a ≡ b → (if b then Some (record { transaction = t; enlistment = n.0; note = n.1; entry = x }) else None) ≡ as_heard t x (if a then Some n else None)
if_told t x n true true e = refl
if_told t x n false false e = refl
if_told t x n true false e = absurd cc
if_told t x n false true e = absurd cc

none_told : (t : TxNo) (x : Entry) (a : Bool) → None ≡ as_heard t x (if a then None else None)
none_told t x true = refl
none_told t x false = refl

-- An entry that is no reply shows the note that it tells.
told_is : (who volatile here there : ℕ → Bool) (t : TxNo) → ((e : EnlNo) → who e.value ≡ here e.value) → ((e : EnlNo) → volatile e.value ≡ there e.value) → (x : Entry) → is_no_reply x ≡ true
    → heard_if here t x (note_shown there x) ≡ as_heard t x (told_by who volatile x)
told_is who volatile here there t p q (InitEntry e) k = if_told t (InitEntry e) (e, Init) (who e.value) (here e.value) (p e)
told_is who volatile here there t p q (Told (Enl e) Committed) k = by (volatile e.value) (there e.value) (q e)
  where
    by : (a b : Bool) → a ≡ b → heard_if here t (Told (Enl e) Committed) (commit_of b e) ≡ as_heard t (Told (Enl e) Committed) (if who e.value then commit_of a e else None)
    by true true k = if_told t (Told (Enl e) Committed) (e, Commit) (who e.value) (here e.value) (p e)
    by false false k = none_told t (Told (Enl e) Committed) (who e.value)
    by true false k = absurd cc
    by false true k = absurd cc
told_is who volatile here there t p q (Told (Enl e) Aborted) k = if_told t (Told (Enl e) Aborted) (e, Rollback) (who e.value) (here e.value) (p e)
told_is who volatile here there t p q (Told (Enl e) DoubtOutcome) k = if_told t (Told (Enl e) DoubtOutcome) (e, InDoubt) (who e.value) (here e.value) (p e)
told_is who volatile here there t p q (Voted e v) k = absurd cc
told_is who volatile here there t p q (PromoteReply e ok) k = absurd cc
told_is who volatile here there t p q (OwnerAnswered e x) k = absurd cc
told_is who volatile here there t p q (Requested e r) k = absurd cc
told_is who volatile here there t p q (Acked e) k = absurd cc
told_is who volatile here there t p q _ k = refl

-- A reply tells nothing beside.
reply_untold : (x : Entry) → is_reply x ≡ true → note_told true x ≡ None
reply_untold (Voted e v) k = refl
reply_untold (PromoteReply e ok) k = refl
reply_untold (OwnerAnswered e x) k = refl
reply_untold (Requested e r) k = refl
reply_untold (Acked e) k = refl
reply_untold _ k = absurd cc

unwanted : (b : Bool) (A : Type 0) → not b ≡ true → WhereReply b A
unwanted true A k = absurd cc
unwanted false A k = tt

same_fit : (n : Note) (a : Option Reply) → fitting n a ≡ counting n a
same_fit n (Some r) = refl
same_fit n None = refl

module _ {R : Type 0} (gives : R → TxNo → EnlNo → Note → Option Reply → R → Type 0) where
  -- A reply is of one for whom it answers.
  asked_of : (who : ℕ → Bool) (t : TxNo) (d : Option (EnlNo × Note)) (x y : R) (given : Option (EnlNo × Reply)) → IsAsked gives who t d x given y → IfSome given (λ g. who g.0.value ≡ true)
  asked_of who t (Some d) x y given asks = by (who d.0.value) refl asks
    where
      replied : (f : Option Reply) → who d.0.value ≡ true → IfSome (reply_by d.0 f) (λ g. who g.0.value ≡ true)
      replied (Some r) k = k
      replied None k = tt

      by : (b : Bool) → who d.0.value ≡ b → IsAskedIf gives b t d.0 d.1 x given y → IfSome given (λ g. who g.0.value ≡ true)
      by true k (a, gave, is) = subst (λ (o : Option (EnlNo × Reply)). IfSome o (λ g. who g.0.value ≡ true)) (sym is) (replied (fitting d.1 a) k)
      by false k (same, none) = subst (λ (o : Option (EnlNo × Reply)). IfSome o (λ g. who g.0.value ≡ true)) (sym none) tt
  asked_of who t None x y given (same, none) = subst (λ (o : Option (EnlNo × Reply)). IfSome o (λ g. who g.0.value ≡ true)) (sym none) tt

  pub one_owned : (s : List Line) (o : Of) (f g : Given) (ms ns : List (Option RmNo)) (vs us : List Bool) (t : TxNo) (d : Option (EnlNo × Note)) (x : R) (given : Option (EnlNo × Reply)) (y : R)
      → IsForOne s o f ms vs → g ≡ f → ns ≡ ms → us ≡ vs → IsAsked gives (answers_by f ms vs) t d x given y → IsForOne s o g ns us × IfSome given (λ h. answers s o h.0.value ≡ true)
  one_owned s o f g ms ns vs us t d x given y is of managers volatiles asks =
      (same_for s o f g ms ns vs us is of managers volatiles, by given (asked_of (answers_by f ms vs) t d x y given asks))
    where
      by : (given : Option (EnlNo × Reply)) → IfSome given (λ h. answers_by f ms vs h.0.value ≡ true) → IfSome given (λ h. answers s o h.0.value ≡ true)
      by (Some h) k = sym (who_is s o f ms vs is h.0) ∙ k
      by None k = tt

  -- Where no reply is owed it hears nothing.
  pub one_idle : (s : List Line) (who : ℕ → Bool) (t : TxNo) (from x y : R) (given : Option (EnlNo × Reply)) (hs : List HeardNote) → IsAsked gives who t None x given y → Reaches gives s from hs x → Reaches gives s from hs y
  one_idle s who t from x y given hs asks reached = subst (λ (z : R). Reaches gives s from hs z) (sym asks.0) reached

  -- What it is told by an entry that is no reply is what the entry shows.
  told_next : (s : List Line) (o : Of) (t : TxNo) (e : Entry) (from : R) (T : List Placed) (x y : R) (n : Option (EnlNo × Note)) (ns : List (EnlNo × Note)) (hs : List HeardNote) → is_no_reply e ≡ true
      → heard s o ((Transaction t, e) ∷ T) ≡ put (as_heard t e n) (heard s o T) → ((z : R) → IsTold gives t ns z y → Reaches gives s from (heard s o ((Transaction t, e) ∷ T)) z → Reaches gives s from hs y)
      → IsTold gives t (put n ns) x y → Reaches gives s from (heard s o T) x → Reaches gives s from hs y
  told_next s o t e from T x y (Some n) ns hs plain shown next (mid, a, gave, more) r =
      next mid more (subst (λ (gs : List HeardNote). Reaches gives s from gs mid) (sym shown) (x, a, r, gave, unwanted (is_reply e) _ plain))
  told_next s o t e from T x y None ns hs plain shown next more r = next x more (subst (λ (gs : List HeardNote). Reaches gives s from gs x) (sym shown) r)

  -- So is what it is told of a block without a reply.
  after_told : (s : List Line) (o : Of) (who volatile : ℕ → Bool) (t : TxNo) → ((e : EnlNo) → who e.value ≡ answers s o e.value) → ((e : EnlNo) → volatile e.value ≡ is_volatile_in s e.value) → (from : R) (es : List Entry) (T : List Placed) (x y : R)
      → each is_no_reply es ≡ true → IsTold gives t (all_of (told_by who volatile) es) x y → Reaches gives s from (heard s o T) x → Reaches gives s from (heard s o (onto T (placed t es))) y
  after_told s o who volatile t p q from [] T x y k same r = subst (λ (z : R). Reaches gives s from (heard s o T) z) (sym same) r
  after_told s o who volatile t p q from (e ∷ es) T x y k told r =
      let plain = and_left (is_no_reply e) (each is_no_reply es) k in
      told_next s o t e from T x y (told_by who volatile e) (all_of (told_by who volatile) es) (heard s o (onto ((Transaction t, e) ∷ T) (placed t es))) plain
      (ap (λ (h : Option HeardNote). put h (heard s o T)) (told_is who volatile (answers s o) (is_volatile_in s) t p q e plain))
      (λ z more reached. after_told s o who volatile t p q from es ((Transaction t, e) ∷ T) z y (and_right (is_no_reply e) (each is_no_reply es) k) more reached) told r

  pub one_called : (s : List Line) (o : Of) (f : Given) (ms : List (Option RmNo)) (vs : List Bool) (t : TxNo) (from x y : R) (es : List Entry) (T : List Placed) → IsForOne s o f ms vs → each is_no_reply es ≡ true
      → IsTold gives t (all_of (told_by (answers_by f ms vs) (volatile_by vs)) es) x y → Reaches gives s from (heard s o T) x → Reaches gives s from (heard s o (onto T (placed t es))) y
  one_called s o f ms vs t from x y es T is none told r = after_told s o (answers_by f ms vs) (volatile_by vs) t (who_is s o f ms vs is) is.volatiles from es T x y none told r

  -- What it is asked for is what the reply's entry shows.
  after_asked : (s : List Line) (o : Of) (who : ℕ → Bool) (t : TxNo) (e : EnlNo) (n : Note) (from x y : R) (given : Option (EnlNo × Reply)) (es : List Entry) (T : List Placed) → who e.value ≡ answers s o e.value
      → (b : IsRepliedIn s e n given es) → IsAskedIf gives (who e.value) t e n x given y → Reaches gives s from (heard s o T) x → Reaches gives s from (heard s o ((Transaction t, b.entry) ∷ T)) y
  after_asked s o who t e n from x y given es T mine b asks r =
      subst (λ (m : Option (EnlNo × Note)). Reaches gives s from (put (heard_if (answers s o) t b.entry m) (heard s o T)) y) (sym (b.note (is_volatile_in s)))
      (by (answers s o e.value) (subst (λ (c : Bool). IsAskedIf gives c t e n x given y) mine asks))
    where
      here : HeardNote
      here = record { transaction = t; enlistment = e; note = n; entry = b.entry }

      taken : (f : Option Reply) → given ≡ reply_by e f → IsTaken (plans_of s e.value) (record { transaction = t; enlistment = e; note = n; entry = b.entry }) f
      taken (Some q) is =
          let same : (e, q) ≡ (e, b.reply) = subst (λ (g : Option (EnlNo × Reply)). IsReplyOf (plans_of s) e n g b.reply) is b.taken in
          subst (λ (z : Reply). Shows b.entry z) (sym (ap (λ (z : EnlNo × Reply). z.1) same)) b.shows
      taken None is =
          let plan : planned (plans_of s e.value) n ≡ Some b.reply = subst (λ (g : Option (EnlNo × Reply)). IsReplyOf (plans_of s) e n g b.reply) is b.taken in
          subst (λ (z : Option Reply). ShowsPlanned b.entry z) (sym plan) b.shows

      so : (a : Option Reply) → given ≡ reply_by e (fitting n a) → IsHeardSo s (record { transaction = t; enlistment = e; note = n; entry = b.entry }) a
      so a is =
          subst (λ (c : Bool). WhereReply c (IsTaken (plans_of s e.value) (record { transaction = t; enlistment = e; note = n; entry = b.entry }) (counting n a))) (sym b.is)
          (taken (counting n a) (is ∙ ap (reply_by e) (same_fit n a)))

      by : (c : Bool) → IsAskedIf gives c t e n x given y → Reaches gives s from (put (if c then Some (record { transaction = t; enlistment = e; note = n; entry = b.entry }) else None) (heard s o T)) y
      by true (a, gave, is) = (x, a, r, gave, so a is)
      by false (same, none) = subst (λ (z : R). Reaches gives s from (heard s o T) z) (sym same) r

  -- So it is for each pending step.
  pub one_stepped : (s : List Line) (o : Of) (f g : Given) (ms ns : List (Option RmNo)) (vs us : List Bool) (t : TxNo) (d : Option (EnlNo × Note)) (from x y z : R) (given : Option (EnlNo × Reply)) (es : List Entry) (T : List Placed)
      → IsForOne s o f ms vs → g ≡ f → ns ≡ ms → us ≡ vs → IsAsked gives (answers_by f ms vs) t d x given y → IsBlockOf s d given es
      → IsTold gives t (all_of (told_by (answers_by g ns us) (volatile_by us)) es) y z → Reaches gives s from (heard s o T) x → Reaches gives s from (heard s o (onto T (placed t es))) z
  one_stepped s o f g ms ns vs us t (Some d) from x y z given es T is of managers volatiles asks b told r =
      subst (λ (hs : List Entry). Reaches gives s from (heard s o (onto T (placed t hs))) z) (sym b.block)
      (one_called s o g ns us t from y z b.rest ((Transaction t, b.entry) ∷ T) (same_for s o f g ms ns vs us is of managers volatiles) b.others more
      (after_asked s o (answers_by f ms vs) t d.0 d.1 from x y given es T (who_is s o f ms vs is d.0) b asks r))
    where
      who : ℕ → Bool
      who = answers_by g ns us

      all : IsTold gives t (all_of (told_by (answers_by g ns us) (volatile_by us)) (b.entry ∷ b.rest)) y z
      all = subst (λ (hs : List Entry). IsTold gives t (all_of (told_by (answers_by g ns us) (volatile_by us)) hs) y z) b.block told

      more : IsTold gives t (all_of (told_by (answers_by g ns us) (volatile_by us)) b.rest) y z
      more =
          subst (λ (m : Option (EnlNo × Note)). IsTold gives t (put (told_if (answers_by g ns us) (volatile_by us) b.entry m) (all_of (told_by (answers_by g ns us) (volatile_by us)) b.rest)) y z) (reply_untold b.entry b.is) all
  one_stepped s o f g ms ns vs us t None from x y z given es T is of managers volatiles asks b told r =
      one_called s o g ns us t from y z es T (same_for s o f g ms ns vs us is of managers volatiles) b told (subst (λ (v : R). Reaches gives s from (heard s o T) v) (sym asks.0) r)
