-- The table as it is filled, link by link, from arrays: each link has the corners that the bits of its ends say, an entry of a table to which
-- links are added is a number of eight bytes, and 16 numbers hold the rows one behind the other.
-- Assumes nothing.
use Prim.Native.Nat.{ℕ, zero, suc, ◌+◌, ◌*◌, ◌^◌, ◌≤◌, ◌<◌}
use mathlib.Core.Path.{◌≡◌, sym, ap, ◌∙◌, subst}
use mathlib.Core.Bool.{Bool, true, false, ◌&&◌}
use mathlib.Core.List.{List, [], ◌∷◌, ◌++◌}
use native.Mathlib.Omega.{arith}
use lib.ListN.{length, get_or, get_or-append}
use Rattle.std.proofs.lemmas.List.{get_or-append-add}
use Rattle.std.specs.List.{flat_map}
use lib.Dec.{eqb}
use Rattle.cuts.specs.Sums.{only}
use Rattle.cuts.specs.Network.{Link, Network, link_at, link_count}
use Rattle.cuts.specs.Cut.{Side}
use Rattle.cuts.specs.Limits.{most_links, four_bytes}
use Rattle.sheet.specs.Bytes.{Bytes, map_bit}
use Rattle.sheet.specs.Areas.{side_read}
use Rattle.arrays.specs.declared.Layout.{Layout}
use Rattle.arrays.specs.declared.Links.{Links}
use Rattle.arrays.specs.Lists.{entry}
use Rattle.arrays.proofs.LinkLaws.{links_of-length, links_of-at}
use Rattle.format.specs.Numbers.{Is}
use Rattle.corners.specs.Corners.{corner, corner_of, corner_table, cell, Four}
use Rattle.corners.specs.CornersTold.{no_table, table_read}
use Rattle.corners.proofs.TableLaws.{raised, raised_at, table_read-is}
use Rattle.corners.proofs.CornerLaws.{corner_table_to, corner_table-filled, corner_table_to-four, corner_table_to-zero, corner_table_to-same, corner_table_to-raised, corner_table_to-most}
use Rattle.corners.proofs.ToldLaws.{corner_bits}
use Rattle.op_corners.specs.Tables.{bare_network, Fillable}

-- ---- link by link

-- a corner that is known, by its number
pub placed : {k m n : ℕ} → k ≡ m → Is 4 k n → Is 4 m n
placed e i = record { same = i.same ∙ e; small = i.small }

-- a table t, and the next one, with a link of weight w between the corners x and y added
pub record Turn (t : List (List ℕ)) (x y w : ℕ) (next : List (List ℕ)) : Type 0 where
  pub small : w < four_bytes
  pub first_fits : cell t x y + w < 2 ^ 64
  pub second_fits : cell (raised t x y w) y x + w < 2 ^ 64
  pub same : x ≡ y → t ≡ next
  pub apart : (x ≡ y → ⊥) → raised (raised t x y w) y x w ≡ next

-- the table of the first k links that the arrays hold
abbrev pub filled_to : Bytes → Bytes → Layout → Links → ℕ → List (List ℕ)
filled_to first second l links k = corner_table_to k (bare_network l links) (side_read l.nodes first) (side_read l.nodes second)

module _ (first second : Bytes) (l : Layout) (links : Links) where
  abbrev net : Network
  net = bare_network l links

  abbrev r : Side
  r = side_read l.nodes first

  abbrev s : Side
  s = side_read l.nodes second

  -- the corner of a node by its bits
  abbrev at : ℕ → ℕ
  at x = corner (map_bit first x) (map_bit second x)

  pub none_filled : no_table ≡ filled_to first second l links 0
  none_filled = sym (corner_table_to-zero net r s)

  module _ (f : Fillable first second (bare_network l links)) where
    all-links : link_count net ≡ l.links
    all-links = links_of-length l.links links.firsts links.seconds links.weights

    pub few_links : l.links ≤ most_links
    few_links = let e = all-links in let m = f.light.few in omega arith

    pub all-filled : (k : ℕ) → k ≡ l.links → filled_to first second l links k ≡ corner_table net r s
    all-filled k e = ap (λ (m : ℕ). corner_table_to m net r s) (e ∙ sym all-links) ∙ corner_table-filled net r s f.linked

    module _ (k : ℕ) (b : k < l.links) where
      link-is : link_at net k ≡ record { first = entry links.firsts k; second = entry links.seconds k; weight = entry links.weights k }
      link-is = links_of-at l.links links.firsts links.seconds links.weights k b

      is_link : k < link_count net
      is_link = rw all-links b

      weight-small : entry links.weights k < four_bytes
      weight-small = let e = ap (λ (l : Link). l.weight) link-is in let l = f.light.small k is_link in omega arith

      first-corner : corner_of r s (link_at net k).first ≡ at (entry links.firsts k)
      first-corner = corner_bits l.nodes first second (link_at net k).first (f.linked.first_in k is_link) ∙ ap (λ (e : Link). at e.first) link-is

      second-corner : corner_of r s (link_at net k).second ≡ at (entry links.seconds k)
      second-corner = corner_bits l.nodes first second (link_at net k).second (f.linked.second_in k is_link) ∙ ap (λ (e : Link). at e.second) link-is

      most : (i j : ℕ) → i < 4 → j < 4 → cell (corner_table_to k net r s) i j ≤ k * four_bytes
      most i j p q = corner_table_to-most net r s k four_bytes (λ m l. let a = f.light.small m (let d = is_link in omega arith) in omega arith) i j p q

      at_most : (c : Bool) → only c (entry links.weights k) ≤ entry links.weights k
      at_most true = omega arith
      at_most false = omega arith

      module _ (x y : ℕ) (x-is : Is 4 (at (entry links.firsts k)) x) (y-is : Is 4 (at (entry links.seconds k)) y) where
        filled : Turn (corner_table_to k net r s) x y (entry links.weights k) (corner_table_to (suc k) net r s)
        filled =
            let u = most x y x-is.small y-is.small in
            let v = most y x y-is.small x-is.small in
            let w = weight-small in
            let l = few_links in
            let g = raised_at (corner_table_to k net r s) x y (entry links.weights k) (corner_table_to-four net r s k) y x y-is.small x-is.small in
            let o = at_most (eqb x y && eqb y x) in
            let p : corner_of r s (link_at net k).first ≡ x = first-corner ∙ sym x-is.same in
            let q : corner_of r s (link_at net k).second ≡ y = second-corner ∙ sym y-is.same in
            record {
              small = w;
              first_fits = omega arith;
              second_fits = omega arith;
              same = λ e. corner_table_to-same net r s k (p ∙ e ∙ sym q);
              apart = λ n. ap (λ (v : ℕ). raised (raised (corner_table_to k net r s) x y v) y x v) (sym (ap (λ (l : Link). l.weight) link-is))
                  ∙ corner_table_to-raised net r s k x y p q n;
            }

        pub turn : (t : List (List ℕ)) → t ≡ filled_to first second l links k → Turn t x y (entry links.weights k) (filled_to first second l links (suc k))
        turn t e = subst (λ (t : List (List ℕ)). Turn t x y (entry links.weights k) (corner_table_to (suc k) net r s)) (sym e) filled

-- ---- rows one behind the other

-- a list of rows of four
flat_at : (t : List (List ℕ)) → ((i : ℕ) → i < length t → length (get_or t i []) ≡ 4) → (i j : ℕ) → i < length t → j < 4
    → get_or (flat_map (λ x. x) t) (4 * i + j) 0 ≡ get_or (get_or t i []) j 0
flat_at [] h i j b c = absurd (omega arith)
flat_at (x ∷ xs) h zero j b c =
    let n = h 0 (omega arith) in
    let e : 4 * 0 + j ≡ j = omega arith in
    ap (λ (k : ℕ). get_or (x ++ flat_map (λ x. x) xs) k 0) e ∙ get_or-append x _ 0 j (omega arith)
flat_at (x ∷ xs) h (suc i) j b c =
    let n = h 0 (omega arith) in
    let e : 4 * suc i + j ≡ length x + (4 * i + j) = omega arith in
    ap (λ (k : ℕ). get_or (x ++ flat_map (λ x. x) xs) k 0) e ∙ get_or-append-add x _ (4 * i + j) 0
    ∙ flat_at xs (λ k l. h (suc k) (omega arith)) i j (omega arith) c

pub rows-read : (t : List (List ℕ)) → Four t → table_read (flat_map (λ x. x) t) ≡ t
rows-read t f =
    let n = f.rows in
    table_read-is (flat_map (λ x. x) t) t f (λ i j b c. flat_at t (λ k l. f.columns k (omega arith)) i j (omega arith) c)
