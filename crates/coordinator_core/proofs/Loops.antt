-- Steps of loops: what was written so far, with what the rest writes, is the whole.
use Rattle.std.proofs.Common.{◌≡◌, ◌∙◌, ◌<◌, ◌≤◌, ◌+◌, ℕ, Bool, true, false, cond, List, [], ◌∷◌, ◌++◌, drop, filter, get_or, length, map, Option, refl, ap, sym, append_assoc, if◌then◌else◌}
use Rattle.std.proofs.lemmas.List.{append-nil, at_drop_all, at_drop_more}
use Rattle.std.specs.List.{flat_map}
use Rattle.dtx_values.specs.declared.entry.Entry.{Entry}
use Rattle.dtx_values.specs.declared.message.Conn.TheVariants.{Enl, Again}
use Rattle.dtx_values.specs.declared.message.Message.{Message}
use Rattle.dtx_values.specs.declared.number.EnlNo.{EnlNo}
use Rattle.dtx_values.specs.Outgoing.{Outgoing, written}
use Rattle.dtx_values.specs.RecoveryInfo.{pair_of}
use Rattle.dtx_model.specs.declared.desk.Ballot.{Ballot}
use Rattle.dtx_model.specs.declared.desk.Desk.{Desk}
use Rattle.dtx_model.specs.Coordinated.{Coordinated, is_prepared, to, to_each}
use Rattle.coordinator_core.specs.Hearing.{hears, told}
use Rattle.dtx_model.proofs.Writing.{written-none, written-written}

-- the block to these who came back
abbrev pub to_these : Coordinated → Message → List EnlNo → List Entry
to_these k m es = flat_map (λ e. to k (Again e) m) es

-- the manager and the number of each that said PREPARED
abbrev pub pairs_of : List Desk → List (ℕ × ℕ)
pairs_of ds = map (λ d. pair_of (d.manager, d.enlistment)) (filter (λ d. is_prepared d.ballot) ds)

-- a message that each hears is sent to each
all_hear : (m : Message) → ((b : Option Ballot) → hears m b ≡ true) → (ds : List Desk) → filter (λ d. hears m d.ballot) ds ≡ ds
all_hear m each [] = refl
all_hear m each (d ∷ ds) = let rest = all_hear m each ds in λ i. cond (each d.ballot i) (d ∷ rest i) (rest i)

pub told_each : (k : Coordinated) (m : Message) → ((b : Option Ballot) → hears m b ≡ true) → (ds : List Desk) → told k m ds ≡ to_each k m ds
told_each k m each ds = ap (λ (xs : List Desk). to_each k m xs) (all_hear m each ds)

-- one that hears the message comes first in the block
first_told : (k : Coordinated) (m : Message) (d : Desk) (ds : List Desk) → (if hears m d.ballot then to k (Enl d.enlistment) m else []) ++ told k m ds ≡ told k m (d ∷ ds)
first_told k m d ds = by (hears m d.ballot)
  where
    by : (b : Bool) → (if b then to k (Enl d.enlistment) m else []) ++ told k m ds ≡ to_each k m (cond b (d ∷ filter (λ x. hears m x.ballot) ds) (filter (λ x. hears m x.ballot) ds))
    by true = refl
    by false = refl

pub told_more : (o : Outgoing) (k : Coordinated) (m : Message) (ds : List Desk) (i : ℕ) (d : Desk) → i < length ds → d ≡ get_or ds i d
    → written (written o (if hears m d.ballot then to k (Enl d.enlistment) m else [])) (told k m (drop (i + 1) ds)) ≡ written o (told k m (drop i ds))
told_more o k m ds i d less here =
    let rest = drop (i + 1) ds in
    let block : List Entry = if hears m d.ballot then to k (Enl d.enlistment) m else [] in
    written-written o block (told k m rest)
    ∙ ap (λ (es : List Entry). written o es)
    (first_told k m d rest ∙ ap (λ (x : Desk). told k m (x ∷ rest)) here ∙ sym (at_drop_more (λ (xs : List Desk). told k m xs) ds i d less))

pub told_all : (o : Outgoing) (k : Coordinated) (m : Message) (ds : List Desk) (i : ℕ) → length ds ≤ i → written o (told k m (drop i ds)) ≡ o
told_all o k m ds i past = at_drop_all (λ (xs : List Desk). written o (told k m xs)) ds i past ∙ written-none o

pub these_more : (o : Outgoing) (k : Coordinated) (m : Message) (es : List EnlNo) (i : ℕ) (e : EnlNo) → i < length es → e ≡ get_or es i e
    → written (written o (to k (Again e) m)) (to_these k m (drop (i + 1) es)) ≡ written o (to_these k m (drop i es))
these_more o k m es i e less here =
    let rest = drop (i + 1) es in
    written-written o (to k (Again e) m) (to_these k m rest)
    ∙ ap (λ (xs : List Entry). written o xs) (ap (λ (x : EnlNo). to_these k m (x ∷ rest)) here ∙ sym (at_drop_more (λ (xs : List EnlNo). to_these k m xs) es i e less))

pub these_all : (o : Outgoing) (k : Coordinated) (m : Message) (es : List EnlNo) (i : ℕ) → length es ≤ i → written o (to_these k m (drop i es)) ≡ o
these_all o k m es i past = at_drop_all (λ (xs : List EnlNo). written o (to_these k m xs)) es i past ∙ written-none o

-- one that said PREPARED comes first among the pairs
first_pair : (d : Desk) (ds : List Desk) → map pair_of (if is_prepared d.ballot then (d.manager, d.enlistment) ∷ [] else []) ++ pairs_of ds ≡ pairs_of (d ∷ ds)
first_pair d ds = by (is_prepared d.ballot)
  where
    by : (b : Bool) → map pair_of (if b then (d.manager, d.enlistment) ∷ [] else []) ++ pairs_of ds ≡ map (λ x. pair_of (x.manager, x.enlistment)) (cond b (d ∷ filter (λ x. is_prepared x.ballot) ds) (filter (λ x. is_prepared x.ballot) ds))
    by true = refl
    by false = refl

pub pairs_more : (before : List (ℕ × ℕ)) (ds : List Desk) (i : ℕ) (d : Desk) → i < length ds → d ≡ get_or ds i d
    → (before ++ map pair_of (if is_prepared d.ballot then (d.manager, d.enlistment) ∷ [] else [])) ++ pairs_of (drop (i + 1) ds) ≡ before ++ pairs_of (drop i ds)
pairs_more before ds i d less here =
    let rest = drop (i + 1) ds in
    append_assoc before (map pair_of (if is_prepared d.ballot then (d.manager, d.enlistment) ∷ [] else [])) (pairs_of rest)
    ∙ ap (λ (xs : List (ℕ × ℕ)). before ++ xs) (first_pair d rest ∙ ap (λ (x : Desk). pairs_of (x ∷ rest)) here ∙ sym (at_drop_more (λ (xs : List Desk). pairs_of xs) ds i d less))

pub pairs_all : (before : List (ℕ × ℕ)) (ds : List Desk) (i : ℕ) → length ds ≤ i → before ++ pairs_of (drop i ds) ≡ before
pairs_all before ds i past = at_drop_all (λ (xs : List Desk). before ++ pairs_of xs) ds i past ∙ append-nil before
