-- What the operation promises, by which refusal comes first: the sheet's, 23, or 24. Number 0 says that the sheet was accepted, that it has the
-- tree, and that the area has room; then the area holds the weights, and what is owed of them is owed of it.
-- Assumes nothing.
use Prim.Native.Nat.{ℕ, ◌≤◌, ◌<◌}
use mathlib.Core.Path.{◌≡◌, sym, ap, ◌∙◌, subst}
use mathlib.Core.Bool.{false}
use mathlib.Core.List.{List, []}
use native.Mathlib.Decide.{dec_lt}
use native.Mathlib.Omega.{arith}
use lib.ListN.{length}
use borrow.Author.Tests.{lt-ltb, le-ltb, le-leb, lt-leb}
use Rattle.cuts.specs.Network.{Network, tree_at}
use Rattle.sheet.specs.Bytes.{Bytes}
use Rattle.sheet.specs.Reading.{first_failing, Reading, accepted, refused, number_of, and_then}
use Rattle.sheet.specs.Sheet.{Format, current, decode}
use Rattle.sheet.specs.Areas.{written}
use Rattle.sheet.proofs.ReadingLaws.{and_then-zero}
use Rattle.sheet.proofs.Acceptance.{decode-zero}
use Rattle.sheet.proofs.Plain.{cut_off, plain}
use Rattle.sheet.proofs.PlainLaws.{plain-same}
use Rattle.pairs.specs.Pairs.{pair_weights, pair_count, OwedPairs}
use Rattle.pairs.specs.PairsWritten.{pairs_fitting, pair_reading, weights_left, PairsWritten}
use Rattle.pairs.proofs.PairLaws.{pairs-owed}

-- ---- which refusal comes first

module _ (tree : ℕ) (area : List ℕ) (net : Network) (rest : Bytes) where
  pub fitting-outside : length net.trees ≤ tree → pairs_fitting tree area net rest ≡ refused 23
  unfolding pairs_fitting first_failing
  fitting-outside l = rw (le-leb (length net.trees) tree l)

  module _ (listed : tree < length net.trees) where
    pub fitting-short : length area < pair_count net (tree_at net tree) → pairs_fitting tree area net rest ≡ refused 24
    unfolding pairs_fitting first_failing
    fitting-short l = rw (lt-leb (length net.trees) tree listed, lt-ltb (length area) (pair_count net (tree_at net tree)) l)

    pub fitting-room : pair_count net (tree_at net tree) ≤ length area → pairs_fitting tree area net rest ≡ accepted net rest
    unfolding pairs_fitting first_failing
    fitting-room l = rw (lt-leb (length net.trees) tree listed, le-ltb (length area) (pair_count net (tree_at net tree)) l)

module _ (f : Format) (sheet : Bytes) (tree : ℕ) (area : List ℕ) where
  pub pair_reading-refused : (n : ℕ) → decode f sheet ≡ refused n → pair_reading f sheet tree area ≡ refused n
  unfolding pair_reading
  pair_reading-refused n e = ap (λ (r : Reading Network). and_then r (pairs_fitting tree area)) e

  pub pair_reading-accepted : (net : Network) (rest : Bytes) → decode f sheet ≡ accepted net rest → pair_reading f sheet tree area ≡ pairs_fitting tree area net rest
  unfolding pair_reading
  pair_reading-accepted net rest e = ap (λ (r : Reading Network). and_then r (pairs_fitting tree area)) e

  -- number 0: the sheet was accepted and has the tree, and the area has room
  read-room : number_of (pair_reading f sheet tree area) ≡ 0 → (net : Network) × (decode f sheet ≡ accepted net []) × (tree < length net.trees)
      × (pair_count net (tree_at net tree) ≤ length area)
  unfolding pair_reading
  read-room z =
      let d = decode-zero f sheet (and_then-zero (decode f sheet) (pairs_fitting tree area) z) in
      let e = sym (ap number_of (pair_reading-accepted d.0 [] d.1)) ∙ z in
      let b = inside d.0 e (dec_lt tree (length d.0.trees)) in
      (d.0, d.1, b, room d.0 e b (dec_lt (length area) (pair_count d.0 (tree_at d.0 tree))))
    where
      inside : (net : Network) → number_of (pairs_fitting tree area net []) ≡ 0 → Dec (tree < length net.trees) → tree < length net.trees
      inside net e (yes b) = b
      inside net e (no b) = let q = sym (ap number_of (fitting-outside tree area net [] (omega arith))) ∙ e in absurd (omega arith)

      room : (net : Network) → number_of (pairs_fitting tree area net []) ≡ 0 → tree < length net.trees → Dec (length area < pair_count net (tree_at net tree))
          → pair_count net (tree_at net tree) ≤ length area
      room net e b (yes l) = let q = sym (ap number_of (fitting-short tree area net [] b l)) ∙ e in absurd (omega arith)
      room net e b (no l) = omega arith

  -- ---- the promise

  -- a number and an area that are those of the reading are all that is promised
  pub pairs-written : {new : List ℕ} {n : ℕ} → n ≡ number_of (pair_reading f sheet tree area) → new ≡ weights_left tree area (pair_reading f sheet tree area)
      → PairsWritten f sheet tree area new n
  pairs-written {new} {n} p q = record {
    number = p;
    weights_is = q;
    owed = λ z. let r = read-room (sym p ∙ z) in
        let net = r.0 in
        let e : new ≡ written (pair_weights net (tree_at net tree)) area =
        q ∙ ap (weights_left tree area) (pair_reading-accepted net [] r.1 ∙ fitting-room tree area net [] r.2 r.3) in
        (net, r.1, r.2, subst (OwedPairs net (tree_at net tree)) (sym e) (pairs-owed net (tree_at net tree) area r.3));
  }

-- ---- sheets that give the same network or the same refusal get the same answer

module _ (tree : ℕ) (area : List ℕ) {new : List ℕ} {n : ℕ} where
  pub written_read : (f : Format) (sheet sheet' : Bytes) → decode f sheet ≡ decode f sheet' → PairsWritten f sheet tree area new n → PairsWritten f sheet' tree area new n
  unfolding pair_reading
  written_read f sheet sheet' same w =
      let e : pair_reading f sheet tree area ≡ pair_reading f sheet' tree area = ap (λ (r : Reading Network). and_then r (pairs_fitting tree area)) same in
      pairs-written f sheet' tree area (w.number ∙ ap number_of e) (w.weights_is ∙ ap (weights_left tree area) e)

  -- F-9: "and with it every other operation, steps over a whole trunk number and answers as if the bit and field were not there"
  pub written-plain : (sheet : Bytes) → cut_off sheet ≡ false → PairsWritten current (plain sheet) tree area new n → PairsWritten current sheet tree area new n
  written-plain sheet whole = written_read current (plain sheet) sheet (plain-same sheet whole)
