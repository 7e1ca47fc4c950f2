-- What is left to prove of `node_layers`.
use Rattle.std.proofs.Common.{◌≡◌, ℕ, sym, subst, arith}
use Rattle.place_layers.specs.Layers.{layers_length}
use Rattle.place_layers.proofs.LayerLaws.{clear-length}
use Rattle.tree_sides.proofs.NodeLaws.{NodesFlipped, flipped_none, flipped_more, layers-before}
use Rattle.tree_sides.proofs.node_layers.Goals as goal

pub loop-x-init : goal.loop-x-init
loop-x-init c = (
  clear-length c.requires.clear,
  subst (NodesFlipped 0 c.args.place.now) (sym c.requires.clear) (flipped_none c.args.place.now layers_length),
)

pub loop-x-preserved : goal.loop-x-preserved
loop-x-preserved c =
    let l = c.loop-x in
    let few = c.requires.few_nodes in (
      omega (arith, c.flip_bit.auto.words, l.invariant.0),
      flipped_more c.args.place.now l.x l.layers c.flip_bit.new.words (omega arith) l.invariant.1 c.flip_bit.ensures,
    )

pub returns : goal.returns
returns c =
    let l = c.loop-x in
    let a = c.args in
    let q : l.x ≡ a.nodes = omega arith in
    layers-before a.place.now a.nodes l.layers c.sum_layers.new.layers c.sum_layers.ensures
    (subst (λ (n : ℕ). NodesFlipped n a.place.now l.layers) q l.invariant.1)
