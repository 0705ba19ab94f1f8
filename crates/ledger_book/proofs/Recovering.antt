-- The recovery of both stores is that of two resources, one after the other.
use Rattle.std.proofs.Common.{◌≡◌, ◌∙◌, ◌++◌, ℕ, List, [], ◌∷◌, map, refl, ap, subst, sym}
use Rattle.dtx_values.specs.declared.number.RmNo.{RmNo}
use Rattle.dtx_model.specs.Log.{CommitRecord}
use Rattle.kv_resource.specs.Held.{holdings_of}
use Rattle.kv_resource.specs.Store.{KvState}
use Rattle.recovery_laws.specs.Finding.{settled}
use Rattle.recovery_laws.specs.OneByOne.{IsRecoveredOneByOne, RecoversOne, Standing}
use Rattle.recovery_laws.specs.Steps.{at_site}
use Rattle.recovery_laws.specs.Whole.{Site}
use Rattle.transactions.specs.Logged.{AreUnique}
use Rattle.transactions.specs.Recovery.{number_of_manager}
use Rattle.transactions.specs.Recovery.{IsOneOf}
use Rattle.ledger_book.specs.Accounts.{at_side, manager_of}
use Rattle.ledger_book.specs.Recovered.{AreEnded, sites_of}
use Rattle.ledger_book.specs.declared.account.Side.{Side}
use Rattle.ledger_book.specs.declared.account.Side.TheVariants.{Left, Right}

-- The recovery of one store: its manager is on the desk from then on, it's one call of recovery, what the store held in doubt is settled, and the other store is as it was.
pub record RecoversSide {D : Type 0} (side : Side) (desk desk_now : List RmNo) (rs qs : List CommitRecord) (left right left_now right_now : KvState D) : Type 0 where
  pub manager : RmNo
  pub numbered : manager.value ≡ manager_of side
  pub added : desk_now ≡ desk ++ manager ∷ []
  pub one : IsOneOf desk manager rs qs
  pub held : holdings_of (at_side side left_now right_now) ≡ settled rs (manager_of side) (holdings_of (at_side side left right))
  pub other : at_side side right_now left_now ≡ at_side side right left

abbrev pub standing : List CommitRecord → List Site → Standing
standing rs ss = record { records = rs; sites = ss }

-- the recovery of the left store, and of the right one
left_one : {D : Type 0} (desk now : List RmNo) (rs qs : List CommitRecord) (left right left_now right_now : KvState D) → RecoversSide Left desk now rs qs left right left_now right_now → AreUnique rs
    → RecoversOne (map number_of_manager desk) 1 (standing rs (sites_of left right)) (standing qs (sites_of left_now right_now))
left_one desk now rs qs left right left_now right_now r unique =
    let sites = sites_of left right in
    let to : at_site (settled rs 1) 1 sites ≡ sites_of left_now right_now =
    ap (λ hs. record { manager = 1; held = hs } ∷ record { manager = 2; held = holdings_of right } ∷ []) (sym r.held) ∙ ap (λ (s : KvState _). sites_of left_now s) (sym r.other) in
    subst (λ ss. RecoversOne (map number_of_manager desk) 1 (standing rs sites) (standing qs ss)) to
    (subst (λ m. RecoversOne (map number_of_manager desk) m (standing rs sites) (standing qs (at_site (settled rs m) m sites))) r.numbered ((r.one unique).1 sites))

right_one : {D : Type 0} (desk now : List RmNo) (rs qs : List CommitRecord) (left right left_now right_now : KvState D) → RecoversSide Right desk now rs qs left right left_now right_now → AreUnique rs
    → RecoversOne (map number_of_manager desk) 2 (standing rs (sites_of left right)) (standing qs (sites_of left_now right_now))
right_one desk now rs qs left right left_now right_now r unique =
    let sites = sites_of left right in
    let to : at_site (settled rs 2) 2 sites ≡ sites_of left_now right_now =
    ap (λ hs. record { manager = 1; held = holdings_of left } ∷ record { manager = 2; held = hs } ∷ []) (sym r.held) ∙ ap (λ (s : KvState _). sites_of s right_now) (sym r.other) in
    subst (λ ss. RecoversOne (map number_of_manager desk) 2 (standing rs sites) (standing qs ss)) to
    (subst (λ m. RecoversOne (map number_of_manager desk) m (standing rs sites) (standing qs (at_site (settled rs m) m sites))) r.numbered ((r.one unique).1 sites))

-- so the law of recovery one by one holds of both
pub both_ended : {D : Type 0} (desk mid now : List RmNo) (rs ps qs : List CommitRecord) (left right left_mid right_mid left_now right_now : KvState D) → IsRecoveredOneByOne → desk ≡ []
    → RecoversSide Left desk mid rs ps left right left_mid right_mid → RecoversSide Right mid now ps qs left_mid right_mid left_now right_now → AreEnded rs left right left_now right_now
both_ended desk mid now rs ps qs left right left_mid right_mid left_now right_now law empty first second unique n whole none =
    let at : map number_of_manager mid ≡ 1 ∷ [] = ap (map number_of_manager) (first.added ∙ ap (λ d. d ++ first.manager ∷ []) empty) ∙ ap (λ m. m ∷ []) first.numbered in
    let one : RecoversOne [] 1 (standing rs (sites_of left right)) (standing ps (sites_of left_mid right_mid)) =
    subst (λ d. RecoversOne (map number_of_manager d) 1 (standing rs (sites_of left right)) (standing ps (sites_of left_mid right_mid))) empty
    (left_one desk mid rs ps left right left_mid right_mid first unique) in
    let two : RecoversOne (1 ∷ []) 2 (standing ps (sites_of left_mid right_mid)) (standing qs (sites_of left_now right_now)) =
    subst (λ d. RecoversOne d 2 (standing ps (sites_of left_mid right_mid)) (standing qs (sites_of left_now right_now))) at
    (right_one mid now ps qs left_mid right_mid left_now right_now second (first.one unique).0) in
    law.ends (1 ∷ 2 ∷ []) (standing rs (sites_of left right)) (standing qs (sites_of left_now right_now)) n (standing ps (sites_of left_mid right_mid), one, (standing qs (sites_of left_now right_now), two, refl)) whole none refl
