-- Eight bytes hold the weight of every side and three times the shares, whatever the weights and shares of four bytes are.
-- Assumes nothing.
use Prim.Native.Nat.{ℕ, suc, ◌*◌, ◌^◌, ◌≤◌, ◌<◌}
use mathlib.Core.List.{List, [], ◌∷◌}
use native.Mathlib.Omega.{arith}
use lib.ListN.{length, get_or}
use Rattle.cuts.specs.Network.{Tree, Network, no_tree}
use Rattle.cuts.specs.Cut.{Side, cut_weight}
use Rattle.cuts.specs.Bound.{shares}
use Rattle.cuts.specs.Limits.{Light, LightShares}
use Rattle.cuts.proofs.CutLaws.{cut_weight-most}

pub side-most : (net : Network) → Light net → (s : Side) → cut_weight net s ≤ 2_048 * 4_294_967_295
side-most net l s =
    let a = cut_weight-most net 4_294_967_295 (λ k b. let w = l.small k b in omega arith) s in
    let m = l.few in
    omega arith

pub side-fits : (net : Network) → Light net → (s : Side) → cut_weight net s < 256 ^ 8
side-fits net l s = let m = side-most net l s in omega arith

shares-most : (m : ℕ) (ts : List Tree) → ((i : ℕ) → i < length ts → (get_or ts i no_tree).share ≤ m) → shares ts ≤ length ts * m
unfolding shares
shares-most m [] h = omega arith
shares-most m (t ∷ ts) h = let r = shares-most m ts (λ i b. h (suc i) (omega arith)) in let a = h 0 (omega arith) in omega arith

pub shares-fit : (ts : List Tree) → LightShares ts → 3 * shares ts < 256 ^ 8
shares-fit ts l =
    let a = shares-most 4_294_967_295 ts (λ i b. let w = l.small i b in omega arith) in
    let m = l.few in
    omega arith
