-- The names of the messages and their bits: the bit of tag n is 2 to the n. The messages of two connections are names of the same bits.
use Rattle.std.specs.Prelude.{ℕ, List, [], ◌∷◌, codes}

abbrev pub named_bits : List (List ℕ × ℕ)
named_bits =
    (codes "BEGIN_BEGIN", 2) ∷ (codes "BEGIN_COMMIT", 4) ∷ (codes "BEGIN_ABORT", 8)
    ∷ (codes "BEGIN_BEGUN", 16) ∷ (codes "BEGIN_COMMITTED", 32) ∷ (codes "BEGIN_ABORTED", 64)
    ∷ (codes "BEGIN_COMMITONE", 128) ∷ (codes "BEGIN_INDOUBT", 256)
    ∷ (codes "VOTER_VOTER", 2) ∷ (codes "VOTER_YES", 4) ∷ (codes "VOTER_NO", 8)
    ∷ (codes "VOTER_CREATED", 16) ∷ (codes "VOTER_REFUSED", 32) ∷ (codes "VOTER_ASK", 64) ∷ (codes "VOTER_COMMIT", 128) ∷ (codes "VOTER_ABORT", 256)
    ∷ (codes "VOTER_INDOUBT", 512)
    ∷ (codes "ENLIST_ENLIST", 2) ∷ (codes "ENLIST_PREPARED", 4) ∷ (codes "ENLIST_NO", 8) ∷ (codes "ENLIST_READONLY", 16) ∷ (codes "ENLIST_ACK", 32)
    ∷ (codes "ENLIST_ENLISTED", 64) ∷ (codes "ENLIST_REFUSED", 128) ∷ (codes "ENLIST_PREPARE", 256) ∷ (codes "ENLIST_COMMIT", 512) ∷ (codes "ENLIST_ABORT", 1024)
    ∷ (codes "ENLIST_SINGLE", 2048) ∷ (codes "ENLIST_ONECOMMITTED", 4096) ∷ (codes "ENLIST_ONEABORTED", 8192) ∷ (codes "ENLIST_ONEINDOUBT", 16384)
    ∷ (codes "REENLIST_REENLIST", 2) ∷ (codes "REENLIST_ACK", 4)
    ∷ (codes "REENLIST_COMMITTED", 8) ∷ (codes "REENLIST_ABORTED", 16)
    ∷ []
