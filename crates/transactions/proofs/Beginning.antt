-- A transaction begins.
use Rattle.std.proofs.Common.{ℕ, zero, suc, Bool, true, false, ◌≡◌, ◌≢◌, ◌≤◌, ◌<◌, ◌+◌, ◌*◌, ◌-◌, ◌∙◌, ◌==◌, ◌&&◌, not, Option, List, [], ◌∷◌, ◌++◌, Some, None, Result, Ok, Err, is_ok, filter, length, slice_get, slice_set, refl, ap, arith, subst, sym, inl, inr, if◌then◌else◌}
use Rattle.std.proofs.lemmas.Bool.Decides.{eqb_tells}
use Rattle.dtx_values.specs.TxIds.{identifier_of_id, number_of}
use Rattle.dtx_values.specs.declared.call.Call.TheVariants.{Begin}
use Rattle.dtx_values.specs.declared.entry.Answer.{Answer}
use Rattle.dtx_values.specs.declared.entry.Answer.TheVariants.{Fine}
use Rattle.dtx_values.specs.declared.number.TxNo.{TxNo}
use Rattle.dtx_values.specs.declared.tx_id.TxId.{TxId}
use Rattle.dtx_values.specs.declared.words.Timeout.{Timeout}
use Rattle.dtx_model.specs.Answers.{local_answer}
use Rattle.dtx_model.specs.Log.{CommitRecord, first_of, is_record_of}
use Rattle.dtx_model.specs.Promotes.{identifier_of}
use Rattle.dtx_model.specs.World.{World, answer_at}
use Rattle.coordinator_log.specs.Slots.{open_records}
use Rattle.coordinator_log.specs.State.{LogState}
use Rattle.log_epochs.specs.Beginning.{AllAre, IsSameOrNext}
use Rattle.log_epochs.specs.Epochs.{is_epoch}
use Rattle.log_epochs.proofs.Records.{same_first, same_records}
use Rattle.std.specs.Prelude.{IsFalse, IsTrue, IfOk, OnOk}
use Rattle.tx_world.specs.AtLog.{AreFit, Fits, id_of}
use Rattle.tx_world.specs.State.{TxState}
use Rattle.tx_world.proofs.Fitting.{fits_same}
use Rattle.transactions.specs.declared.error.TxError.{TxError}
use Rattle.transactions.specs.declared.handle.CommittableTransaction.{CommittableTransaction}
use Rattle.transactions.specs.Calling.{IsCalled}
use Rattle.transactions.specs.Keeping.{AreNumbered, FitsAll, IsKept, IsSound}
use Rattle.transactions.specs.Numbering.{IsRecorded, IsTaken}
use Rattle.transactions.specs.Slots.{AreSame, Standing, is_live, is_used, is_vacant, live_at, live_in}
use Rattle.transactions.specs.State.{LiveState, blank}
use Rattle.transactions.proofs.Fitted.{all_more_are, are_more}
use Rattle.transactions.proofs.Numbers.{number_at, up_before}
use Rattle.transactions.proofs.Standing.{get_here, get_there, none_live, not_live, put_at}

-- each number of the epoch after this one, and up to n, is taken
abbrev pub AreTaken : {D : Type 0} → LogState D → ℕ → ℕ → List LiveState → ℕ → Type 0
AreTaken log epoch after xs n = (p : TxNo) → after < p.value → p.value ≤ n → IsTaken log epoch xs p.value

-- each place up to n has a transaction
abbrev pub AreUsed : List LiveState → ℕ → Type 0
AreUsed xs n = (p : TxNo) → p.value ≤ n → is_vacant (slice_get xs (p.value - 1)) ≡ false

-- what stands in a list at whose end one item was put
pub get_end : {A : Type 0} (xs : List A) (y : A) → slice_get (xs ++ y ∷ []) (length xs) ≡ Some y
get_end [] y = refl
get_end (x ∷ xs) y = get_end xs y

pub get_before : {A : Type 0} (xs : List A) (y : A) (j : ℕ) → j ≢ length xs → slice_get (xs ++ y ∷ []) j ≡ slice_get xs j
get_before [] y zero n = absurd (n refl)
get_before [] y (suc j) n = refl
get_before (x ∷ xs) y zero n = refl
get_before (x ∷ xs) y (suc j) n = get_before xs y j (λ e. n (ap suc e))

-- The transaction that was put at the end, and the others.
pub push_at : {A : Type 0} {P : ℕ → A → Type 0} (xs : List A) (y : A) → P (length xs) y → ((j : ℕ) (z : A) → slice_get xs j ≡ Some z → P j z) → (j : ℕ) (z : A) → slice_get (xs ++ y ∷ []) j ≡ Some z → P j z
push_at {A} {P} xs y own other j z e = elim (eqb_tells j (length xs)) [ inl k ↦ subst (λ (m : ℕ). P m z) (sym k.1) (subst (P (length xs)) (same k.1) own) | inr k ↦ other j z (sym (get_before xs y j k.1) ∙ e) ]
  where
    the_same : {B : Type 0} (a b : B) → Some a ≡ Some b → a ≡ b
    the_same a b q = cc

    same : j ≡ length xs → y ≡ z
    same k = the_same y z (sym (get_end xs y) ∙ (ap (slice_get (xs ++ y ∷ [])) (sym k) ∙ e))

-- it goes on at the end
pub live_end : (t : TxId) (xs new : List LiveState) (y : LiveState) → new ≡ xs ++ y ∷ [] → length xs + 1 ≡ t.t.value → is_live t y ≡ true → live_at t new ≡ Some y
live_end t xs new y items place is =
    let same : t.t.value - 1 ≡ length xs = omega (arith, place) in
    ap (live_at t) items ∙ (ap (live_in t) (ap (slice_get (xs ++ y ∷ [])) same ∙ get_end xs y) ∙ ap (λ b. if b then Some y else None) is)

-- nothing stands behind the end
nothing_after : {A : Type 0} (xs : List A) → slice_get xs (length xs) ≡ None
nothing_after [] = refl
nothing_after (x ∷ xs) = nothing_after xs

pub others_before : (t : TxId) (xs new : List LiveState) (y : LiveState) → new ≡ xs ++ y ∷ [] → y.number ≡ t → AreSame t xs new
others_before t xs new y items number u n = ap (live_at u) items ∙ elim (eqb_tells (u.t.value - 1) (length xs)) [
  | inl k ↦ (
      let after : slice_get (xs ++ y ∷ []) (u.t.value - 1) ≡ Some y = ap (slice_get (xs ++ y ∷ [])) k.1 ∙ get_end xs y in
      let before : slice_get xs (u.t.value - 1) ≡ None = ap (slice_get xs) k.1 ∙ nothing_after xs in
      ap (live_in u) after ∙ (none_live u y (not_live t u y number n) ∙ sym (ap (live_in u) before)))
  | inr k ↦ ap (live_in u) (get_before xs y (u.t.value - 1) k.1)
]

-- what stands at a vacant place is no transaction that goes on
pub vacant_none : (x : LiveState) (o : Option LiveState) → o ≡ Some x → is_vacant o ≡ true → (u : TxId) → is_live u x ≡ false
vacant_none x o there free u = off (is_used x.usage) (number_of x.number == number_of u) (sym (ap is_vacant there) ∙ free)
  where
    off : (a b : Bool) → not a ≡ true → (a && b) ≡ false
    off true b k = absurd cc
    off false b k = refl

-- the place of a transaction is vacant, by its place from 0
pub place_free : (t : TxId) (i : ℕ) (xs : List LiveState) → i + 1 ≡ t.t.value → is_vacant (slice_get xs (t.t.value - 1)) ≡ true → is_vacant (slice_get xs i) ≡ true
place_free t i xs place free =
    let same : t.t.value - 1 ≡ i = omega (arith, place) in
    subst (λ (j : ℕ). is_vacant (slice_get xs j) ≡ true) same free

-- so no transaction of the place goes on
pub vacant_fresh : (t : TxId) (o : Option LiveState) → is_vacant o ≡ true → live_in t o ≡ None
vacant_fresh t None free = refl
vacant_fresh t (Some x) free = none_live t x (vacant_none x (Some x) refl free t)

-- the numbers are kept, at the end and at the place of one that is no more
pub numbered_push : (xs : List LiveState) (y : LiveState) → AreNumbered xs → y.number.t.value ≡ length xs + 1 → y.tx.transaction ≡ y.number → AreNumbered (xs ++ y ∷ [])
numbered_push xs y numbered place own = push_at {P = λ j (z : LiveState). (z.number.t.value ≡ j + 1) × (z.tx.transaction ≡ z.number)} xs y (place, own) numbered

pub numbered_put : (xs : List LiveState) (i : ℕ) (x y : LiveState) → slice_get xs i ≡ Some x → AreNumbered xs → i + 1 ≡ y.number.t.value → y.tx.transaction ≡ y.number → AreNumbered (slice_set xs i y)
numbered_put xs i x y here numbered place own j z e = elim (eqb_tells j i) [ inl k ↦ this k.1 | inr k ↦ numbered j z (sym (get_there xs i j y k.1) ∙ e) ]
  where
    the_same : {B : Type 0} (a b : B) → Some a ≡ Some b → a ≡ b
    the_same a b q = cc

    this : j ≡ i → (z.number.t.value ≡ j + 1) × (z.tx.transaction ≡ z.number)
    this k =
        let same : y ≡ z = the_same y z (sym (get_here xs i x y here) ∙ (ap (slice_get (slice_set xs i y)) (sym k) ∙ e)) in
        subst (λ (v : LiveState). (v.number.t.value ≡ j + 1) × (v.tx.transaction ≡ v.number)) same (sym place ∙ ap (λ n. n + 1) (sym k), own)

-- the log fits all, where it fits the new one
pub fits_push : {D : Type 0} (image : D → List ℕ → Type 0) (log : LogState D) (xs : List LiveState) (y : LiveState) (last : ℕ) → Fits y.tx (open_records log.slots)
    → AreFit (image log.disk) (Fits y.tx) → last < number_of y.number → FitsAll image log xs last → FitsAll image log (xs ++ y ∷ []) (number_of y.number)
fits_push image log xs y last own images above all = record {
  fits = λ up. push_at {P = λ j (z : LiveState). Fits z.tx (open_records log.slots)} xs y own (all.fits up);
  imaged = push_at {P = λ j (z : LiveState). AreFit (image log.disk) (Fits z.tx)} xs y images all.imaged;
  upto = push_at {P = λ j (z : LiveState). number_of z.number ≤ number_of y.number} xs y (omega arith) (λ j z there. let low = all.upto j z there in omega arith);
  unknown = λ t higher none. all.unknown t (omega arith) none;
}

pub fits_put : {D : Type 0} (image : D → List ℕ → Type 0) (log : LogState D) (xs : List LiveState) (i : ℕ) (x y : LiveState) (last : ℕ) → slice_get xs i ≡ Some x
    → Fits y.tx (open_records log.slots) → AreFit (image log.disk) (Fits y.tx) → last < number_of y.number → FitsAll image log xs last → FitsAll image log (slice_set xs i y) (number_of y.number)
fits_put image log xs i x y last here own images above all = record {
  fits = λ up. put_at {P = λ (z : LiveState). Fits z.tx (open_records log.slots)} xs i x y here own (λ j z n there. all.fits up j z there);
  imaged = put_at {P = λ (z : LiveState). AreFit (image log.disk) (Fits z.tx)} xs i x y here images (λ j z n there. all.imaged j z there);
  upto = put_at {P = λ (z : LiveState). number_of z.number ≤ number_of y.number} xs i x y here (omega arith) (λ j z n there. let low = all.upto j z there in omega arith);
  unknown = λ t higher none. all.unknown t (omega arith) none;
}

-- So a manager keeps what it is to keep, with one transaction more, whose number is the last one then.
pub kept_put : {D : Type 0} (honest : Bool) (image : D → List ℕ → Type 0) (log : LogState D) (t : TxId) (xs : List LiveState) (i : ℕ) (x y : LiveState) (last n : ℕ) → slice_get xs i ≡ Some x
    → i + 1 ≡ t.t.value → y.number ≡ t → IsSound y → Fits y.tx (open_records log.slots) → (IsTrue honest → AreFit (image log.disk) (Fits y.tx)) → last < number_of t
    → IsRecorded honest image log (number_of t) → n ≡ number_of t → IsKept honest image log xs last → IsKept honest image log (slice_set xs i y) n
kept_put honest image log t xs i x y last n here place number sound own images above recorded is was =
    let same : number_of y.number ≡ number_of t = ap (λ (u : TxId). number_of u) number in
    let higher : last < number_of y.number = omega arith in
    let there : i + 1 ≡ y.number.t.value = place ∙ ap (λ (u : TxId). u.t.value) (sym number) in (
      numbered_put xs i x y here was.0 there sound.own,
      λ h. subst (FitsAll image log (slice_set xs i y)) (same ∙ sym is) (fits_put image log xs i x y last here own (images h) higher (was.1 h)),
      was.2,
      subst (IsRecorded honest image log) (sym is) recorded,
    )

pub kept_push : {D : Type 0} (honest : Bool) (image : D → List ℕ → Type 0) (log : LogState D) (t : TxId) (xs new : List LiveState) (y : LiveState) (last n : ℕ) → new ≡ xs ++ y ∷ []
    → length xs + 1 ≡ t.t.value → y.number ≡ t → IsSound y → Fits y.tx (open_records log.slots) → (IsTrue honest → AreFit (image log.disk) (Fits y.tx)) → last < number_of t
    → IsRecorded honest image log (number_of t) → n ≡ number_of t → IsKept honest image log xs last → IsKept honest image log new n
kept_push honest image log t xs new y last n items place number sound own images above recorded is was =
    let same : number_of y.number ≡ number_of t = ap (λ (u : TxId). number_of u) number in
    let higher : last < number_of y.number = omega arith in
    let there : y.number.t.value ≡ length xs + 1 = ap (λ (u : TxId). u.t.value) number ∙ sym place in
    subst (λ (l : List LiveState). IsKept honest image log l n) (sym items) (
      numbered_push xs y was.0 there sound.own,
      λ h. subst (FitsAll image log (xs ++ y ∷ [])) (same ∙ sym is) (fits_push image log xs y last own (images h) higher (was.1 h)),
      was.2,
      subst (IsRecorded honest image log) (sym is) recorded,
    )

-- the last number, by its epoch
pub last_is : (t : TxId) (epoch n : ℕ) → epoch ≡ t.epoch → n ≡ t.t.value → 65536 * epoch + n ≡ number_of t
last_is t epoch n of_it at = let number = number_at t t.epoch refl in omega arith

-- where no record is the first of this identifier, none is
none_of : (id : ℕ) (rs : List CommitRecord) → first_of id rs ≡ None → filter (is_record_of id) rs ≡ []
none_of id [] e = refl
none_of id (r ∷ rs) e = by_test (is_record_of id r) refl (none_of id rs)
  where
    some : Some r ≡ None → ⊥
    some q = cc

    by_test : (b : Bool) → is_record_of id r ≡ b → (first_of id rs ≡ None → filter (is_record_of id) rs ≡ []) → filter (is_record_of id) (r ∷ rs) ≡ []
    by_test true h rest = absurd (some (sym (ap (λ b. if b then Some r else first_of id rs) h) ∙ e))
    by_test false h rest = ap (λ b. if b then r ∷ filter (is_record_of id) rs else filter (is_record_of id) rs) h ∙ rest (sym (ap (λ b. if b then Some r else first_of id rs) h) ∙ e)

-- the log fits a new transaction of whose number it has no record
pub fits_new : (t : TxId) (x : TxState) (rs : List CommitRecord) → x.transaction ≡ t → first_of (identifier_of (number_of t)) rs ≡ None → Fits x [] → Fits x rs
fits_new t x rs is none f = fits_same x [] rs (none_of (id_of x) rs (ap (λ (u : TxId). first_of (identifier_of (number_of u)) rs) is ∙ none)) f

-- a begin is answered so
begin_fine : (t : ℕ) (w : World) (u : TxNo) (o : Timeout) → answer_at t w (Begin u o) 0 ≡ Fine
unfolding answer_at local_answer
begin_fine t w u o = refl

-- the first call of a new transaction is its begin
pub begins : {D : Type 0} (faults : D → ℕ) (log : LogState D) (t : TxId) (o : Timeout) (time line : ℕ) (answer : Answer) (x y : LiveState) → x ≡ blank t time → IsCalled faults log (Begin t.t o) line answer x y
    → IsCalled faults log (Begin t.t o) 1 Fine (blank t time) y
begins faults log t o time line answer x y is called =
    let first = subst (λ (v : LiveState). IsCalled faults log (Begin t.t o) line answer v y) is called in
    let answered : IsCalled faults log (Begin t.t o) line Fine (blank t time) y = subst (λ (a : Answer). IsCalled faults log (Begin t.t o) line a (blank t time) y) (first.answered ∙ begin_fine _ _ _ _) first in
    subst (λ (n : ℕ). IsCalled faults log (Begin t.t o) n Fine (blank t time) y) first.line_is answered

-- what is so of a list, and of it with one item more, is so of what a push leaves
pub pushed : {A E : Type 0} (P : List LiveState → Type 0) (z : Result A E) (xs ys new : List LiveState) → new ≡ (if is_ok z then ys else xs) → P ys → P xs → P new
pushed P (Ok r) xs ys new is more same = subst P (sym is) more
pushed P (Err e) xs ys new is more same = subst P (sym is) same

-- a push that was done put the item at the end
pub pushed_on : {A E : Type 0} (z : Result A E) (r : A) (xs ys new : List LiveState) → new ≡ (if is_ok z then ys else xs) → z ≡ Ok r → new ≡ ys
pushed_on z r xs ys new is done = is ∙ ap (λ (q : Result _ _). if is_ok q then ys else xs) done

-- and one that failed left the list
pub pushed_off : {A E : Type 0} (z : Result A E) (e : E) (xs ys new : List LiveState) → new ≡ (if is_ok z then ys else xs) → z ≡ Err e → new ≡ xs
pushed_off z e xs ys new is failed = is ∙ ap (λ (q : Result _ _). if is_ok q then ys else xs) failed

-- there is an item at each place of a list
pub inside : {A : Type 0} (xs : List A) (i : ℕ) → i < length xs → (x : A) × (slice_get xs i ≡ Some x)
inside [] i h = absurd (omega (arith, h))
inside (x ∷ xs) zero h = (x, refl)
inside (x ∷ xs) (suc i) h = inside xs i (omega (arith, h))

-- The log fits all still, after what a begin does to it.
pub fits_next : {D : Type 0} (image : D → List ℕ → Type 0) (from to : LogState D) (xs : List LiveState) (last next : ℕ) → last ≤ next → ((x : TxId) → is_epoch (identifier_of (number_of x)) ≡ false)
    → ((id : ℕ) → is_epoch id ≡ false → filter (is_record_of id) (open_records to.slots) ≡ filter (is_record_of id) (open_records from.slots)) → (IsTrue from.is_up → AllAre (image to.disk) (IsSameOrNext (open_records from.slots)))
    → (IsFalse from.is_up → to ≡ from) → FitsAll image from xs last → FitsAll image to xs next
fits_next {D} image from to xs last next grows law others images down all =
    record {
      fits = λ up i x there. fits_same x.tx (open_records from.slots) (open_records to.slots) (others (id_of x.tx) (law x.tx.transaction)) (all.fits (up_before from to down up) i x there);
      imaged = imaged from.is_up refl;
      upto = λ i x there. (let low = all.upto i x there in omega arith);
      unknown = λ t above none. unknown from.is_up refl t (omega arith) none;
    }
  where
    imaged : (b : Bool) → from.is_up ≡ b → (i : ℕ) (x : LiveState) → slice_get xs i ≡ Some x → AreFit (image to.disk) (Fits x.tx)
    imaged true up i x there = all_more_are (image to.disk) (IsSameOrNext (open_records from.slots)) (Fits x.tx)
        (λ rs same. fits_same x.tx (open_records from.slots) rs (same_records (id_of x.tx) (open_records from.slots) rs (law x.tx.transaction) same.commits) (all.fits up i x there)) (images up)
    imaged false off i x there = subst (λ (l : LogState D). AreFit (image l.disk) (Fits x.tx)) (sym (down off)) (all.imaged i x there)

    unknown : (b : Bool) → from.is_up ≡ b → (t : TxId) → last < number_of t → first_of (identifier_of_id t) (open_records to.slots) ≡ None → AreFit (image to.disk) (λ rs. first_of (identifier_of_id t) rs ≡ None)
    unknown true up t above none =
        let id = identifier_of_id t in
        let was : first_of id (open_records from.slots) ≡ None = sym (same_first id (open_records from.slots) (open_records to.slots) (others id (law t))) ∙ none in
        all_more_are (image to.disk) (IsSameOrNext (open_records from.slots)) (λ rs. first_of id rs ≡ None)
        (λ rs same. same_first id (open_records from.slots) rs (same_records id (open_records from.slots) rs (law t) same.commits) ∙ was) (images up)
    unknown false off t above none =
        let id = identifier_of_id t in
        subst (λ (l : LogState D). AreFit (image l.disk) (λ rs. first_of id rs ≡ None)) (sym (down off)) (all.unknown t above (subst (λ (l : LogState D). first_of id (open_records l.slots) ≡ None) (down off) none))

-- a new transaction fits each image, where none has a record of its number
pub images_new : (image : List ℕ → Type 0) (t : TxId) (x y : TxState) → x.transaction ≡ t → ((rs : List CommitRecord) → Fits x rs → Fits y rs) → Fits x []
    → AreFit image (λ rs. first_of (identifier_of_id t) rs ≡ None) → AreFit image (Fits y)
images_new image t x y is keeps f none = are_more image (λ rs. first_of (identifier_of_id t) rs ≡ None) (Fits y) (λ rs n. keeps rs (fits_new t x rs is n f)) none

-- A transaction was begun as this one, after its number was found.
pub begun_by : {D C : Type 0} (faults : D → ℕ) (timeout : Timeout) (t : TxId) (mid new : Standing D C) (reading : ℕ) (z : Result CommittableTransaction TxError) → mid.reading ≡ reading
    → new ≡ record mid { lives = new.lives; last = new.last } → IfOk z (λ tx. tx.number ≡ t)
    → OnOk z ((y : LiveState) × (live_at t new.lives ≡ Some y) × IsCalled faults mid.log (Begin t.t timeout) 1 Fine (blank t mid.reading) y)
    → IfOk z (λ tx. (y : LiveState) × (live_at tx.number new.lives ≡ Some y) × IsCalled faults new.log (Begin tx.number.t timeout) 1 Fine (blank tx.number reading) y)
begun_by faults timeout t mid new reading (Ok tx) same rest number did =
    let y = did.0 in
    let log : mid.log ≡ new.log = sym (ap (λ (s : Standing _ _). s.log) rest) in
    let called : IsCalled faults mid.log (Begin t.t timeout) 1 Fine (blank t reading) y = subst (λ (r : ℕ). IsCalled faults mid.log (Begin t.t timeout) 1 Fine (blank t r) y) same did.2 in
    subst (λ (n : TxId). (v : LiveState) × (live_at n new.lives ≡ Some v) × IsCalled faults new.log (Begin n.t timeout) 1 Fine (blank n reading) v) (sym number)
    (y, did.1, subst (λ (l : LogState _). IsCalled faults l (Begin t.t timeout) 1 Fine (blank t reading) y) log called)
begun_by faults timeout t mid new reading (Err e) same rest number did = tt
