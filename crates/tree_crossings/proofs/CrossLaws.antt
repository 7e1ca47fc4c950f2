-- The members of a tree that cross the side of a cell of another, from the layers: they are the bits set in an odd number of its layers.
-- Assumes nothing.
use Prim.Native.Nat.{ℕ, suc, ◌-◌, ◌/◌, ◌%◌, ◌≤◌, ◌<◌}
use mathlib.Core.Path.{◌≡◌, refl, sym, ap, ap₂, ◌∙◌}
use mathlib.Core.Logic.{◌⊎◌, inl, inr}
use mathlib.Core.Bool.{Bool, true, false, ◌&&◌, not, xor, and-eq-true_iff}
use mathlib.Core.List.{List}
use native.Mathlib.Decide.{ℕ_discrete}
use native.Mathlib.Omega.{arith}
use lib.ListN.{length, take}
use lib.Seq.{get_or-take, length-take-le}
use lib.Dec.{eqb, leb, ltb}
use borrow.Author.Tests.{leb-true, ltb-true, lt-ltb, le-ltb, eq-eqb, ne_eqb}
use Rattle.cuts.specs.Sums.{only, count_to}
use Rattle.cuts.specs.Network.{Network, Tree, flag, link_at, link_count}
use Rattle.cuts.specs.Limits.{most_nodes}
use Rattle.cuts.specs.Cut.{Side, crosses, crossings, sym_diff}
use Rattle.cuts.specs.Tree.{below}
use Rattle.cuts.specs.Candidate.{Handle, side_of, member_links}
use Rattle.cuts.proofs.FlagLaws.{truth, xor_self, xor-false, xor-swap}
use Rattle.cuts.proofs.SumLaws.{sum_congr, select-count, count_cut}
use Rattle.cuts.proofs.ListLaws.{each_at}
use Rattle.cuts.proofs.CutLaws.{crosses-is, crosses-sym_diff}
use Rattle.cuts.proofs.Handles.{members-rising}
use Rattle.cuts.proofs.SelectLaws.{members-counted}
use Rattle.arrays.specs.Lists.{entry}
use Rattle.arrays.specs.Links.{Held}
use Rattle.arrays.specs.Kept.{Kept}
use Rattle.search_order.specs.Choice.{chosen}
use Rattle.read_sheet.proofs.TreeLaws.{listed-within}
use Rattle.tree_places.proofs.WithinLaws.{within-xor}
use Rattle.tree_ranks.specs.Ranks.{RankedTree}
use Rattle.tree_ranks.specs.declared.Ranked.{Ranked}
use Rattle.bit_table.specs.Cells.{cells_end, is_cell, cell_handle, Tabled}
use Rattle.place_layers.specs.Layers.{layer_bit, oddly}
use Rattle.tree_crossings.specs.Layers.{end_place, EndsParted, odd_count}
use Rattle.tree_crossings.specs.Strikes.{side_crossings, cell_crossings, Struck}

-- ---- the layers of the members of one tree, by the places of another

-- the members of the tree t are listed, and the layers say of each which places part its ends
pub record Marked (net : Network) (t : Tree) (place layers : List ℕ) : Type 0 where
  pub firsts : List ℕ
  pub seconds : List ℕ
  pub nodes : ℕ
  pub members : List ℕ
  pub count : ℕ
  pub held : Held net firsts seconds nodes
  pub ends_parted : EndsParted nodes firsts seconds members count place layers
  pub few : count < most_nodes
  pub there : count ≤ length members
  pub listed : take count members ≡ member_links net t

-- exactly one end of link e stands before place p
abbrev parted : Network → List ℕ → ℕ → ℕ → Bool
parted net place e p = xor (ltb (entry place (link_at net e).first) p) (ltb (entry place (link_at net e).second) p)

below-parted : {net : Network} {t : Tree} {place node stops links : List ℕ} → Kept net t place node stops links
    → (e u : ℕ) → e < link_count net → 0 < u → u < net.nodes
    → crosses net (below net t (entry links u)) e ≡ xor (parted net place e (entry stops u)) (parted net place e u)
below-parted {net} {t} {place} {node} {stops} {links} k e u b z d =
    crosses-is net (below net t (entry links u)) e
    ∙ ap₂ xor
    (in_run (link_at net e).first (k.spanning.linked.first_in e b)) (in_run (link_at net e).second (k.spanning.linked.second_in e b))
    ∙ xor-swap _ _ _ _
  where
    in_run : (x : ℕ) → x < net.nodes → flag (below net t (entry links u)) x ≡ xor (ltb (entry place x) (entry stops u)) (ltb (entry place x) u)
    in_run x c = k.below_is u x z d c ∙ within-xor u (entry stops u) (entry place x) (let l = k.some u d in omega arith)

parted-none : (net : Network) (place : List ℕ) (e : ℕ) → parted net place e 0 ≡ false
parted-none net place e =
    ap₂ xor (le-ltb (entry place (link_at net e).first) 0 (omega arith)) (le-ltb (entry place (link_at net e).second) 0 (omega arith))
    ∙ xor_self false

module _ {net : Network} {t : Tree} {place layers : List ℕ} (m : Marked net t place layers) where
  -- exactly one end of the r-th member stands before place p, by the arrays
  abbrev apart : ℕ → ℕ → Bool
  apart p r = xor (ltb (end_place m.firsts m.members place r) p) (ltb (end_place m.seconds m.members place r) p)

  is_link : (r : ℕ) → r < m.count → entry m.members r < link_count net
  unfolding member_links
  is_link = listed-within m.members m.count (link_count net) (flag t.members) m.listed m.there

  layer-parted : (p r : ℕ) → p ≤ net.nodes → r < m.count → layer_bit layers p r ≡ parted net place (entry m.members r) p
  layer-parted p r b d =
      let few = m.few in
      let n = m.held.sized in
      m.ends_parted p r (omega arith) (omega arith)
      ∙ ap (λ (x : Bool). x && apart p r) (lt-ltb r m.count d)
      ∙ ap₂ (λ (x y : ℕ). xor (ltb (entry place x) p) (ltb (entry place y) p))
      (sym (m.held.firsts (entry m.members r) (is_link r d))) (sym (m.held.seconds (entry m.members r) (is_link r d)))

  layer_past : (p r : ℕ) → p ≤ net.nodes → m.count ≤ r → r < most_nodes → layer_bit layers p r ≡ false
  layer_past p r b d l =
      let n = m.held.sized in
      m.ends_parted p r (omega arith) l ∙ ap (λ (x : Bool). x && apart p r) (le-ltb r m.count d)

  odd_past : (a b c d r : ℕ) → a ≤ net.nodes → b ≤ net.nodes → c ≤ net.nodes → d ≤ net.nodes → m.count ≤ r → r < most_nodes
      → oddly layers a b c d r ≡ false
  unfolding xor
  odd_past a b c d r la lb lc ld l n = rw (layer_past a r la l n, layer_past b r lb l n, layer_past c r lc l n, layer_past d r ld l n)

  -- the members that cross a side are counted
  crossings-odd : (s : Side) (a b c d : ℕ) → a ≤ net.nodes → b ≤ net.nodes → c ≤ net.nodes → d ≤ net.nodes
      → ((r : ℕ) → r < m.count → oddly layers a b c d r ≡ crosses net s (entry m.members r)) → odd_count layers a b c d ≡ crossings net t s
  unfolding crossings member_links
  crossings-odd s a b c d la lb lc ld g =
      let few = m.few in
      let l : length (member_links net t) ≡ m.count = ap length (sym m.listed) ∙ length-take-le m.count m.members m.there in
      count_cut m.count most_nodes (oddly layers a b c d) (omega arith) (λ r e f. odd_past a b c d r la lb lc ld e f)
      ∙ sum_congr m.count _ _ (λ r e. ap (λ (x : Bool). only x 1) (g r e ∙ ap (crosses net s) (member r e)))
      ∙ ap (λ (n : ℕ). count_to n (λ r. crosses net s (entry (member_links net t) r))) (sym l)
      ∙ select-count (link_count net) (flag t.members) (crosses net s)
    where
      member : (r : ℕ) → r < m.count → entry m.members r ≡ entry (member_links net t) r
      member r e = sym (get_or-take m.count m.members r 0 e) ∙ ap (λ (xs : List ℕ). entry xs r) m.listed

-- ---- the side of one link of the other tree, and of two

module _ {net : Network} {t t' : Tree} {place node stops links layers : List ℕ} (k : Kept net t place node stops links)
    (m : Marked net t' place layers) where
  no-layer : (r : ℕ) → r < m.count → layer_bit layers 0 r ≡ false
  no-layer r l = layer-parted m 0 r (omega arith) l ∙ parted-none net place (entry m.members r)

  crossings-one : (u : ℕ) → 0 < u → u < net.nodes → odd_count layers (entry stops u) u 0 0 ≡ crossings net t' (below net t (entry links u))
  crossings-one u z d =
      let top = k.most u d in
      crossings-odd m (below net t (entry links u)) (entry stops u) u 0 0 (omega arith) (omega arith) (omega arith) (omega arith)
      (λ r l. let e = entry m.members r in
      ap₂ xor (ap₂ xor (layer-parted m (entry stops u) r (omega arith) l) (layer-parted m u r (omega arith) l))
      (ap₂ xor (no-layer r l) (no-layer r l) ∙ xor_self false)
      ∙ xor-false (xor (parted net place e (entry stops u)) (parted net place e u)) ∙ sym (below-parted k e u (is_link m r l) z d))

  crossings-two : (u v : ℕ) → 0 < u → u < net.nodes → 0 < v → v < net.nodes
      → odd_count layers (entry stops u) u (entry stops v) v ≡ crossings net t' (sym_diff (below net t (entry links u)) (below net t (entry links v)))
  crossings-two u v z d y f =
      let top = k.most u d in
      let end = k.most v f in
      crossings-odd m (sym_diff (below net t (entry links u)) (below net t (entry links v))) (entry stops u) u (entry stops v) v
      (omega arith) (omega arith) (omega arith) (omega arith)
      (λ r l. let e = entry m.members r in
      ap₂ xor
      (ap₂ xor (layer-parted m (entry stops u) r (omega arith) l) (layer-parted m u r (omega arith) l) ∙ sym (below-parted k e u (is_link m r l) z d))
      (ap₂ xor (layer-parted m (entry stops v) r (omega arith) l) (layer-parted m v r (omega arith) l) ∙ sym (below-parted k e v (is_link m r l) y f))
      ∙ sym (crosses-sym_diff net (below net t (entry links u)) (below net t (entry links v)) e))

-- ---- cells

module _ {net : Network} {t t' : Tree} {r : Ranked} {layers : List ℕ} (k : RankedTree net t r) (m : Marked net t' r.places.place layers) where
  pub cell-crosses : (q : ℕ) → q / most_nodes ≤ q % most_nodes → q % most_nodes < length (member_links net t)
      → cell_crossings layers r.places.stops r.at q ≡ crossings net t' (side_of net t (cell_handle (member_links net t) q))
  unfolding side_crossings side_of
  cell-crosses q up b = go (ℕ_discrete i j)
    where
      i : ℕ
      i = q / most_nodes

      j : ℕ
      j = q % most_nodes

      ms : List ℕ
      ms = member_links net t

      last : suc j < net.nodes
      last = let n = members-counted k.kept.spanning in omega arith

      go : Dec (i ≡ j)
          → side_crossings layers r.places.stops (eqb i j) (entry r.at i) (entry r.at j)
          ≡ crossings net t' (side_of net t (chosen (entry ms i) (entry ms j)))
      go (yes e) =
          let s = last in
          rw (← e, eq-eqb i i refl, eq-eqb (entry ms i) (entry ms i) refl)
          (crossings-one k.kept m (entry r.at i) (k.ranks.some i (omega arith)) (k.ranks.within i (omega arith))
          ∙ ap (λ (x : ℕ). crossings net t' (below net t x)) (k.ranks.member i (omega arith)))
      go (no e) =
          let s = last in
          let l = each_at ◌<◌ 0 ms (members-rising net t) i j (omega arith) b in
          rw (ne_eqb i j e, ne_eqb (entry ms i) (entry ms j) (λ z. omega arith))
          (crossings-two k.kept m (entry r.at i) (entry r.at j)
          (k.ranks.some i (omega arith)) (k.ranks.within i (omega arith))
          (k.ranks.some j (omega arith)) (k.ranks.within j (omega arith))
          ∙ ap₂ (λ (x y : ℕ). crossings net t' (sym_diff (below net t x) (below net t y)))
          (k.ranks.member i (omega arith)) (k.ranks.member j (omega arith)))

  pub tabled_struck : (p : Handle → Bool) (before after : List ℕ) → Tabled net t p before
      → Struck net.nodes layers r.places.stops r.at before after
      → Tabled net t (λ h. p h && not (leb (crossings net t' (side_of net t h)) 2)) after
  tabled_struck p before after f g q = g q ∙ ap (λ (x : Bool). x && not struck) (f q) ∙ go (truth (is_cell (length ms) q))
    where
      struck : Bool
      struck = ltb q (cells_end (net.nodes - 1)) && leb (cell_crossings layers r.places.stops r.at q) 2

      ms : List ℕ
      ms = member_links net t

      h : Handle
      h = cell_handle ms q

      go : (is_cell (length ms) q ≡ true) ⊎ (is_cell (length ms) q ≡ false)
          → ((is_cell (length ms) q && p h) && not struck) ≡ (is_cell (length ms) q && (p h && not (leb (crossings net t' (side_of net t h)) 2)))
      go (inr z) = rw z
      go (inl z) =
          let w = (and-eq-true_iff (leb (q / most_nodes) (q % most_nodes)) (ltb (q % most_nodes) (length ms))).0 z in
          let up = leb-true (q / most_nodes) (q % most_nodes) w.0 in
          let b = ltb-true (q % most_nodes) (length ms) w.1 in
          let n = members-counted k.kept.spanning in
          rw (z, lt-ltb q (cells_end (net.nodes - 1)) (omega arith), cell-crosses q up b)
