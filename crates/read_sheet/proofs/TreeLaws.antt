-- A tree record by its parts: the checks of its map, the map as a slice of the sheet, what is read in each case, and where it lies.
-- Assumes nothing.
use Prim.Native.Nat.{ℕ, suc, ◌+◌, ◌-◌, ◌*◌, ◌/◌, ◌≤◌, ◌<◌}
use mathlib.Core.Path.{◌≡◌, refl, sym, ap, ◌∙◌}
use mathlib.Core.Bool.{Bool, true, false, ◌&&◌, not, cond}
use mathlib.Core.List.{List, [], ◌∷◌, ◌++◌}
use native.Mathlib.Nat.{suc-mul, mul-le-mul_right}
use native.Mathlib.Numerals.{add-one}
use native.Mathlib.Omega.{arith}
use lib.ListN.{length, take, drop, length-drop}
use lib.Seq.{get_or-take, length-take-le, drop-drop}
use lib.Dec.{leb}
use borrow.Author.Tests.{le-ltb, lt-ltb, eq-eqb, ne_eqb, eqb-true, not-false}
use Rattle.cuts.specs.Sums.{only, count_to, any_to, select, table}
use Rattle.cuts.specs.Network.{Network, Tree, link_count}
use Rattle.cuts.specs.Tree.{spans}
use Rattle.cuts.specs.Candidate.{member_links}
use Rattle.cuts.proofs.SumLaws.{any_to_congr, sum_congr, table_congr, table_at}
use Rattle.cuts.proofs.ListLaws.{at_mem}
use Rattle.cuts.proofs.Handles.{select_congr, select-of}
use Rattle.arrays.specs.Lists.{Within}
use Rattle.sheet.specs.Bytes.{Bytes, map_bit}
use Rattle.sheet.specs.Reading.{check, first_failing, accepted, refused, unless, records}
use Rattle.sheet.specs.Sheet.{map_length, tree_length, tree_in, map_checks, tree_checks, tree_record}
use Rattle.arrays.specs.Records.{trees_from, map_at}
use Rattle.sheet.proofs.Acceptance.{ones_below}
use Rattle.sheet.proofs.ReadingLaws.{lacks, passed, unless-append, unless-refused, Run, run-start, run_more, run-done}

-- ---- the checks of a map

module _ (map : Bytes) (nodes links : ℕ) where
  module _ (sized : length map ≡ map_length links) where
    pub map-stray : any_to (8 * length map) (λ k. leb links k && map_bit map k) ≡ true → first_failing (map_checks nodes links map) ≡ 13
    unfolding first_failing map_checks
    map-stray h = rw (← sized, h)

    module _ (clean : any_to (8 * length map) (λ k. leb links k && map_bit map k) ≡ false) where
      pub map_miscounted : (count_to (8 * length map) (map_bit map) ≡ nodes - 1 → ⊥) → first_failing (map_checks nodes links map) ≡ 14
      unfolding first_failing map_checks
      map_miscounted h = rw (← sized, clean, ne_eqb _ _ h)

      pub map-passed : count_to (8 * length map) (map_bit map) ≡ nodes - 1 → first_failing (map_checks nodes links map) ≡ 0
      unfolding first_failing map_checks
      map-passed h = rw (← sized, clean, eq-eqb _ _ h)

  -- where the map passes, the ones below the link count are all
  pub map-counted : first_failing (map_checks nodes links map) ≡ 0 → count_to links (map_bit map) ≡ nodes - 1
  unfolding map_checks
  map-counted h =
      sym (ones_below map links (passed 13 (map_checks nodes links map) refl h)) ∙ eqb-true _ _ (not-false _ (passed 14 (map_checks nodes links map) refl h))

-- ---- the map as a slice

map_bit-take : (n : ℕ) (bs : Bytes) (k : ℕ) → k < 8 * n → map_bit (take n bs) k ≡ map_bit bs k
map_bit-take n bs k h = rw (get_or-take n bs (k / 8) 0 (omega arith))

map_checks-take : (nodes links : ℕ) (bs : Bytes) → map_checks nodes links (take (map_length links) bs) ≡ map_checks nodes links bs
unfolding map_checks
map_checks-take nodes links bs =
    rw (
      any_to_congr (8 * map_length links) (λ k. leb links k && map_bit (take (map_length links) bs) k) (λ k. leb links k && map_bit bs k)
          (λ k b. ap (λ (c : Bool). leb links k && c) (map_bit-take (map_length links) bs k b)),
      sum_congr (8 * map_length links) (λ k. only (map_bit (take (map_length links) bs) k) 1) (λ k. only (map_bit bs k) 1)
          (λ k b. ap (λ (c : Bool). only c 1) (map_bit-take (map_length links) bs k b)),
    )

-- the members by that slice
tree_in-members : (net : Network) (bs : Bytes) → (tree_in net bs).members ≡ table (link_count net) (map_bit (take (map_length (link_count net)) (drop 4 bs)))
unfolding tree_in
tree_in-members net bs =
    table_congr (link_count net) _ _ (λ k b. sym (map_bit-take (map_length (link_count net)) (drop 4 bs) k (omega arith)))

-- ---- the members listed

pub listed-within : (ms : List ℕ) (count links : ℕ) (f : ℕ → Bool) → take count ms ≡ select links f → count ≤ length ms → Within ms count links
listed-within ms count links f e b i h =
    let l : length (select links f) ≡ count = ap length (sym e) ∙ length-take-le count ms b in
    rw (← get_or-take count ms i 0 h, e) (select-of f links (at_mem 0 (select links f) i (omega arith))).0

pub member_links-map : (net : Network) (t : Tree) (map : Bytes) (links : ℕ) → link_count net ≡ links → t.members ≡ table links (map_bit map)
    → select links (map_bit map) ≡ member_links net t
unfolding member_links
member_links-map net t map links n e = rw (n, e) (select_congr links (map_bit map) _ (λ k b. sym (table_at false links (map_bit map) k b)))

-- ---- what is read

map-numbered : (nodes links : ℕ) (map : Bytes) → lacks 0 (map_checks nodes links map) ≡ true
unfolding map_checks
map-numbered nodes links map = refl

module _ (net : Network) (bs : Bytes) where
  tree_cut_off : length bs < tree_length (link_count net) → tree_record net bs ≡ refused 12
  unfolding first_failing tree_checks tree_record
  tree_cut_off h = rw (lt-ltb _ _ h)

  module _ (whole : tree_length (link_count net) ≤ length bs) where
    -- the map's checks, and then that the members join all nodes
    tree-whole : tree_record net bs ≡ unless (first_failing (map_checks net.nodes (link_count net) (drop 4 bs)))
        (unless (cond (not (spans net (tree_in net bs))) 15 0) (accepted (tree_in net bs) (drop (tree_length (link_count net)) bs)))
    unfolding first_failing tree_checks tree_record
    tree-whole =
        rw (le-ltb (length bs) (tree_length (link_count net)) whole)
        (unless-append (map_checks net.nodes (link_count net) (drop 4 bs)) (check 15 (not (spans net (tree_in net bs))) ∷ []) _
        (map-numbered net.nodes (link_count net) (drop 4 bs)))

    tree-refused : (n : ℕ) → first_failing (map_checks net.nodes (link_count net) (drop 4 bs)) ≡ n → (n ≡ 0 → ⊥) → tree_record net bs ≡ refused n
    tree-refused n h z = rw (tree-whole, h) (unless-refused n _ z)

    module _ (passes : first_failing (map_checks net.nodes (link_count net) (drop 4 bs)) ≡ 0) where
      tree_apart : spans net (tree_in net bs) ≡ false → tree_record net bs ≡ refused 15
      tree_apart h = rw (tree-whole, passes, h)

      tree-read : spans net (tree_in net bs) ≡ true → tree_record net bs ≡ accepted (tree_in net bs) (drop (tree_length (link_count net)) bs)
      tree-read h = rw (tree-whole, passes, h)

-- ---- at a position of the sheet, with the map as a slice

pub cut_off-at : (net : Network) (s : Bytes) (at : ℕ) → length s - at < tree_length (link_count net) → refused 12 ≡ tree_record net (drop at s)
cut_off-at net s at h = sym (tree_cut_off net (drop at s) (rw (length-drop at s) h))

module _ (net : Network) (s map : Bytes) (at : ℕ) (slice : map ≡ take (map_length (link_count net)) (drop (at + 4) s))
    (whole : at + tree_length (link_count net) ≤ length s) where
  same : take (map_length (link_count net)) (drop 4 (drop at s)) ≡ map
  same = rw (drop-drop 4 at s) (sym slice)

  checks_at : map_checks net.nodes (link_count net) (drop 4 (drop at s)) ≡ map_checks net.nodes (link_count net) map
  checks_at = sym (map_checks-take net.nodes (link_count net) (drop 4 (drop at s))) ∙ ap (map_checks net.nodes (link_count net)) same

  whole-at : tree_length (link_count net) ≤ length (drop at s)
  whole-at = rw (length-drop at s) (omega arith)

  pub members-at : (tree_in net (drop at s)).members ≡ table (link_count net) (map_bit map)
  members-at = tree_in-members net (drop at s) ∙ ap (λ (bs : Bytes). table (link_count net) (map_bit bs)) same

  pub refused-at : (n : ℕ) → n ≡ first_failing (map_checks net.nodes (link_count net) map) → (n ≡ 0 → ⊥) → refused n ≡ tree_record net (drop at s)
  refused-at n h z = sym (tree-refused net (drop at s) whole-at n (ap first_failing checks_at ∙ sym h) z)

  module _ (passes : first_failing (map_checks net.nodes (link_count net) map) ≡ 0) where
    pub apart-at : false ≡ spans net (tree_in net (drop at s)) → refused 15 ≡ tree_record net (drop at s)
    apart-at h = sym (tree_apart net (drop at s) whole-at (ap first_failing checks_at ∙ passes) (sym h))

    pub read_at : (end : ℕ) → end ≡ at + tree_length (link_count net) → true ≡ spans net (tree_in net (drop at s))
        → accepted (tree_in net (drop at s)) (drop end s) ≡ tree_record net (drop at s)
    read_at end e h =
        ap (λ (i : ℕ). accepted (tree_in net (drop at s)) (drop i s)) e
        ∙ sym (tree-read net (drop at s) whole-at (ap first_failing checks_at ∙ passes) (sym h) ∙ ap (accepted (tree_in net (drop at s))) (drop-drop (tree_length (link_count net)) at s))

-- ---- the map of the record at a position

module _ (s : Bytes) (at links : ℕ) where
  pub map_at-counted : count_to links (map_bit (map_at s at links)) ≡ count_to links (map_bit (drop (at + 4) s))
  map_at-counted = sum_congr links _ _ (λ k b. ap (λ (c : Bool). only c 1) (map_bit-take (map_length links) (drop (at + 4) s) k (omega arith)))

  module _ (net : Network) (n : link_count net ≡ links) where
    pub map_at-slice : map_at s at links ≡ map_at s at (link_count net)
    map_at-slice = ap (map_at s at) (sym n)

    pub map_at-members : at + tree_length links ≤ length s → (tree_in net (drop at s)).members ≡ table links (map_bit (map_at s at links))
    map_at-members whole =
        members-at net s (map_at s at links) at map_at-slice (rw n whole) ∙ ap (λ (i : ℕ). table i (map_bit (map_at s at links))) n

  pub map_at-length : at + tree_length links ≤ length s → length (map_at s at links) ≡ map_length links
  map_at-length whole = length-take-le (map_length links) (drop (at + 4) s) (rw (length-drop (at + 4) s) (omega arith))

-- ---- one record after another

pub trees_from-more : (net : Network) (i : ℕ) (bs : Bytes) → trees_from net (i + 1) bs ≡ trees_from net i bs ++ tree_in net (drop (i * tree_length (link_count net)) bs) ∷ []
unfolding trees_from table
trees_from-more net i bs = rw add-one

-- after i trees, of `count` from the position `from` on, reading goes on at the position `at`
abbrev pub TreesRun : Network → Bytes → ℕ → ℕ → ℕ → ℕ → Type 0
TreesRun net s from count at i = Run (λ _. tree_record net) count i (trees_from net i (drop from s)) (drop at s) (drop from s)

pub trees-start : (net : Network) (s : Bytes) (from count : ℕ) → TreesRun net s from count from 0
unfolding trees_from table
trees-start net s from count = run-start (λ _. tree_record net) count (drop from s)

module _ (net : Network) (s : Bytes) (from count at i : ℕ) (w : TreesRun net s from count at i) where
  pub trees-more : i < count → at ≡ from + i * tree_length (link_count net) → (end : ℕ) → accepted (tree_in net (drop at s)) (drop end s) ≡ tree_record net (drop at s)
      → TreesRun net s from count end (i + 1)
  trees-more more here end e =
      let same : drop (i * tree_length (link_count net)) (drop from s) ≡ drop at s = drop-drop (i * tree_length (link_count net)) from s ∙ ap (λ (k : ℕ). drop k s) (sym here) in
      rw (trees_from-more net i (drop from s), same) (run_more w more (sym e))

  pub trees_done : i ≡ count → accepted (trees_from net count (drop from s)) (drop at s) ≡ records (λ _. tree_record net) count [] (drop from s)
  trees_done e = rw e at (run-done w e)

-- record i of n behind one another
pub record_inside : (at n size end i : ℕ) → at + n * size ≤ end → i < n → at + i * size + size ≤ end
record_inside at n size end i h b = let l : suc i * size ≤ n * size = mul-le-mul_right size b in let e = suc-mul i size in omega arith
