-- A sheet that is accepted gives a sound network within document 01's limits: each limit is one of the checks that it passed.
-- Assumes nothing.
use Prim.Native.Nat.{ℕ, zero, suc, ◌+◌, ◌-◌, ◌*◌, ◌≤◌, ◌<◌}
use mathlib.Core.Path.{◌≡◌, refl, sym, ap, ◌∙◌, subst}
use mathlib.Core.Bool.{Bool, true, false, ◌&&◌, ◌||◌}
use mathlib.Core.List.{List, [], ◌∷◌, ◌++◌}
use native.Mathlib.Nat.{not-suc-le-zero}
use native.Mathlib.Omega.{arith}
use lib.ListN.{length, get_or, drop}
use lib.Dec.{eqb, leb, ltb}
use borrow.Author.Tests.{ltb-false, leb-false, le-leb, eqb-true, eqb-false, ne_eqb, not-false}
use Rattle.cuts.specs.Sums.{count_to, any_to, all_to}
use Rattle.cuts.specs.Network.{Link, Tree, Network, Linked, no_link, no_tree, flag, link_count}
use Rattle.cuts.specs.Tree.{member_count, joins, spread, spreads, root, joined, spans}
use Rattle.cuts.proofs.FlagLaws.{clash, neither}
use Rattle.cuts.proofs.SumLaws.{any_to-at, sum_congr, count_cut, table-length, table_at}
use Rattle.sheet.specs.Bytes.{Bytes, map_bit}
use Rattle.sheet.specs.Reading.{Check, Reading, accepted, number_of, check, first_failing, records}
use Rattle.sheet.specs.Sheet.{Format, Accepted, Counts, counts_in, count_checks, header_record, record_length, link_in, shape_checks, value_checks, link_record, next_link, map_length, tree_length, tree_in, map_checks, tree_checks, tree_record, network, trees_behind, decode_body, decode}
use Rattle.sheet.proofs.ReadingLaws.{passed, unless-accepted, and_then-accepted, Never, unless_never, and_then_never, records_never, never_zero, records-counted, All, records-all}

-- ---- the header

pub record GoodCounts (c : Counts) : Type 0 where
  pub nodes_least : 2 ≤ c.nodes
  pub nodes_most : c.nodes ≤ 256
  pub links_least : c.nodes - 1 ≤ c.links
  pub links_most : c.links ≤ 2048
  pub trees_least : 0 < c.trees
  pub trees_most : c.trees ≤ 32

pub good-counts : (sheet : Bytes) (c : Counts) (rest : Bytes) → header_record sheet ≡ accepted c rest → GoodCounts c
unfolding header_record count_checks
good-counts sheet c rest e =
    let k : Counts = counts_in sheet in
    let cs : List Check = check 3 (ltb (length sheet) 5) ∷ count_checks k in
    let r = unless-accepted (first_failing cs) _ e in
    let a = neither (ltb k.nodes 2) (ltb 256 k.nodes) (passed 4 cs refl r.0) in
    let b = neither (ltb k.links (k.nodes - 1)) (ltb 2048 k.links) (passed 5 cs refl r.0) in
    let d = neither (eqb k.trees 0) (ltb 32 k.trees) (passed 6 cs refl r.0) in
    let q : k ≡ c = cc in
    subst GoodCounts q (record {
      nodes_least = ltb-false k.nodes 2 a.0;
      nodes_most = ltb-false 256 k.nodes a.1;
      links_least = ltb-false k.links (k.nodes - 1) b.0;
      links_most = ltb-false 2048 k.links b.1;
      trees_least = positive k.trees (eqb-false k.trees 0 d.0);
      trees_most = ltb-false 32 k.trees d.1;
    })
  where
    positive : (t : ℕ) → (t ≡ 0 → ⊥) → 0 < t
    positive zero f = absurd (f refl)
    positive (suc t) f = omega arith

-- ---- links

pub record GoodLink (f : Format) (nodes : ℕ) (l : Link) : Type 0 where
  pub first_in : l.first < nodes
  pub second_in : l.second < nodes
  pub differ : l.first ≡ l.second → ⊥
  pub light : l.weight ≤ f.weight_limit

pub good-link : (f : Format) (nodes : ℕ) (got : List Link) (bs : Bytes) (l : Link) (rest : Bytes) → next_link f nodes got bs ≡ accepted l rest → GoodLink f nodes l
unfolding link_record shape_checks value_checks
good-link f nodes got bs l rest e =
    let before : Link = get_or got (length got - 1) no_link in
    let k : Link = link_in f before bs in
    let cs : List Check = shape_checks f (eqb (length got) 0) bs ++ value_checks f nodes k in
    let r = unless-accepted (first_failing cs) _ e in
    let a = neither (leb nodes k.first || leb nodes k.second) (eqb k.first k.second) (passed 10 cs refl r.0) in
    let b = neither (leb nodes k.first) (leb nodes k.second) a.0 in
    let q : k ≡ l = cc in
    subst (GoodLink f nodes) q (record {
      first_in = leb-false nodes k.first b.0;
      second_in = leb-false nodes k.second b.1;
      differ = eqb-false k.first k.second a.1;
      light = ltb-false f.weight_limit k.weight (passed 11 cs refl r.0);
    })

-- ---- trees

record GoodTree (net : Network) (t : Tree) : Type 0 where
  sized : length t.members ≡ link_count net
  counted : member_count net t ≡ net.nodes - 1
  spanning : spans net t ≡ true

-- with no bit set from the link count up, the ones of the map are those below it
pub ones_below : (map : Bytes) (links : ℕ) → any_to (8 * map_length links) (λ k. leb links k && map_bit map k) ≡ false
    → count_to (8 * map_length links) (map_bit map) ≡ count_to links (map_bit map)
ones_below map links h = count_cut links (8 * map_length links) (map_bit map) (omega arith) (λ k a b. clear k a b (map_bit map k) refl)
  where
    clear : (k : ℕ) → links ≤ k → k < 8 * map_length links → (c : Bool) → map_bit map k ≡ c → c ≡ false
    clear k a b false e = refl
    clear k a b true e = clash (any_to-at (8 * map_length links) (λ j. leb links j && map_bit map j) k b (rw (le-leb links k a) e)) h

pub members-counted : (net : Network) (bs : Bytes) → member_count net (tree_in net bs) ≡ count_to (link_count net) (map_bit (drop 4 bs))
unfolding member_count tree_in
members-counted net bs = sum_congr (link_count net) _ _ (λ k b. rw (table_at false (link_count net) (map_bit (drop 4 bs)) k b))

members_sized : (net : Network) (bs : Bytes) → length (tree_in net bs).members ≡ link_count net
unfolding tree_in
members_sized net bs = table-length (link_count net) _

good-tree : (net : Network) (got : List Tree) (bs : Bytes) (t : Tree) (rest : Bytes) → tree_record net bs ≡ accepted t rest → GoodTree net t
unfolding tree_record tree_checks map_checks
good-tree net got bs t rest e =
    let r = unless-accepted (first_failing (tree_checks net bs)) _ e in
    let q : tree_in net bs ≡ t = cc in
    subst (GoodTree net) q (record {
      sized = members_sized net bs;
      counted = members-counted net bs ∙ sym (ones_below (drop 4 bs) (link_count net) (passed 13 (tree_checks net bs) refl r.0))
          ∙ eqb-true _ _ (not-false _ (passed 14 (tree_checks net bs) refl r.0));
      spanning = not-false _ (passed 15 (tree_checks net bs) refl r.0);
    })

-- which trees are listed does not matter to what links join
module _ (nodes : ℕ) (links : List Link) (ts us : List Tree) where
  spreads_any : (r : ℕ) (chosen : List Bool) → spreads r (network nodes links ts) chosen (root (network nodes links ts)) ≡ spreads r (network nodes links us) chosen (root (network nodes links us))
  unfolding spreads spread joins root
  spreads_any zero chosen = refl
  spreads_any (suc r) chosen = ap (spread (network nodes links ts) chosen) (spreads_any r chosen)

  spans_any : (t : Tree) → spans (network nodes links ts) t ≡ spans (network nodes links us) t
  unfolding spans joined
  spans_any t = ap (λ (s : List Bool). all_to nodes (flag s)) (spreads_any nodes t.members)

  good_any : {t : Tree} → GoodTree (network nodes links ts) t → GoodTree (network nodes links us) t
  unfolding member_count
  good_any {t} g = record { sized = g.sized; counted = g.counted; spanning = sym (spans_any t) ∙ g.spanning }

-- ---- the whole sheet

-- a sheet that gives the network: its header, its links and its trees are read one behind the other, and no byte is left
pub record Parts (f : Format) (sheet : Bytes) (net : Network) (rest : Bytes) : Type 0 where
  pub counts : Counts
  pub body : Bytes
  pub behind : Bytes
  pub header_read : header_record sheet ≡ accepted counts body
  pub nodes_are : counts.nodes ≡ net.nodes
  pub links_read : records (next_link f net.nodes) counts.links [] body ≡ accepted net.links behind
  pub trees_read : records (λ _. tree_record (network net.nodes net.links [])) counts.trees [] behind ≡ accepted net.trees rest
  pub none_left : ltb 0 (length rest) ≡ false

module _ (f : Format) (sheet : Bytes) (net : Network) (rest : Bytes) (e : decode f sheet ≡ accepted net rest) where
  pub decode-parts : Parts f sheet net rest
  unfolding decode decode_body first_failing
  decode-parts =
      let h = and_then-accepted (header_record sheet) (decode_body f) e in
      let c : Counts = h.0 in
      let l = and_then-accepted (records (next_link f c.nodes) c.links [] h.1) (trees_behind c) h.3 in
      let t = and_then-accepted (records (λ _. tree_record (network c.nodes l.0 [])) c.trees [] l.1) _ l.3 in
      let cs : List Check = check 16 (ltb 0 (length t.1)) ∷ [] in
      let end = unless-accepted (first_failing cs) _ t.3 in
      let q : network c.nodes l.0 t.0 ≡ net = cc in
      let r : t.1 ≡ rest = cc in
      subst (Parts f sheet net) r (subst (λ (m : Network). Parts f sheet m t.1) q (record {
        counts = c;
        body = h.1;
        behind = l.1;
        header_read = h.2;
        nodes_are = refl;
        links_read = l.2;
        trees_read = t.2;
        none_left = passed 16 cs refl end.0;
      }))

  -- as many links are read as the header counts
  pub links-counted : decode-parts.counts.links ≡ link_count net
  links-counted = let p = decode-parts in let c = records-counted (next_link f net.nodes) p.counts.links [] p.body p.links_read in omega arith

  pub decode-accepted : Accepted f net
  decode-accepted =
      let p = decode-parts in
      let first : Network = network net.nodes net.links [] in
      from p.counts p.nodes_are (good-counts sheet p.counts p.body p.header_read)
      (records-all no_link (GoodLink f net.nodes) (next_link f net.nodes) (good-link f net.nodes) p.counts.links p.body p.links_read)
      (records-counted (next_link f net.nodes) p.counts.links [] p.body p.links_read)
      (records-all no_tree (GoodTree first) (λ _. tree_record first) (good-tree first) p.counts.trees p.behind p.trees_read)
      (records-counted (λ _. tree_record first) p.counts.trees [] p.behind p.trees_read)
    where
      from : (c : Counts) → c.nodes ≡ net.nodes → GoodCounts c → All no_link (GoodLink f net.nodes) net.links → length net.links ≡ 0 + c.links
          → All no_tree (GoodTree (network net.nodes net.links [])) net.trees → length net.trees ≡ 0 + c.trees → Accepted f net
      from c n w g links s trees =
          let linked : Linked net = record {
            rooted = let a = w.nodes_least in omega arith;
            first_in = λ k b. (g k b).first_in;
            second_in = λ k b. (g k b).second_in;
          } in
          record {
            sound = record {
              several = let a = w.nodes_least in omega arith;
              linked = linked;
              listed = let a = w.trees_least in omega arith;
              spanning = λ i b. let t = good_any net.nodes net.links [] net.trees (s i b) in record { linked = linked; counted = t.counted; spanning = t.spanning };
            };
            nodes_most = let a = w.nodes_most in omega arith;
            links_most = let a = w.links_most in omega arith;
            trees_most = let a = w.trees_most in omega arith;
            ends_differ = λ k b. (g k b).differ;
            weights_most = λ k b. (g k b).light;
            members_sized = λ i b. (s i b).sized;
          }

  nothing_left : rest ≡ []
  nothing_left = empty rest (ltb-false 0 (length rest) decode-parts.none_left)
    where
      empty : (bs : Bytes) → length bs ≤ 0 → bs ≡ []
      empty [] b = refl
      empty (x ∷ bs) b = absurd (not-suc-le-zero b)

-- ---- refusals that are never given

-- a refusal that is neither the header's nor a tree's, and no link's as long as P holds, which goes on from link to link
module _ (f : Format) (n : ℕ) (header : 3 ≤ n → 7 ≤ n) (early : n < 12) where
  header_never : (sheet : Bytes) → Never n (header_record sheet)
  unfolding header_record count_checks
  header_never sheet =
      unless_never n (check 3 (ltb (length sheet) 5) ∷ count_checks (counts_in sheet)) (accepted (counts_in sheet) (drop 5 sheet))
      (rw (ne_eqb 3 n (λ e. omega (arith, header (omega arith))), ne_eqb 4 n (λ e. omega (arith, header (omega arith))), ne_eqb 5 n (λ e. omega (arith, header (omega arith))), ne_eqb 6 n (λ e. omega (arith, header (omega arith))))) tt

  tree_never : (net : Network) (bs : Bytes) → Never n (tree_record net bs)
  unfolding tree_record tree_checks map_checks
  tree_never net bs =
      unless_never n (tree_checks net bs) (accepted (tree_in net bs) (drop (tree_length (link_count net)) bs))
      (rw (ne_eqb 12 n (λ e. omega arith), ne_eqb 13 n (λ e. omega arith), ne_eqb 14 n (λ e. omega arith), ne_eqb 15 n (λ e. omega arith))) tt

  pub trees_never : (c : Counts) (links : List Link) (bs : Bytes) → Never n (trees_behind c links bs)
  trees_never c links bs =
      let one : Bytes → Reading Tree = tree_record (network c.nodes links []) in
      and_then_never n (records (λ _. one) c.trees [] bs) _
      (records_never n (λ _ _. Unit {0}) (λ _. one) (λ _ bs _. tree_never (network c.nodes links []) bs) (λ _ _ _ _ _ _. tt) c.trees [] bs tt)
      (λ trees end _. unless_never n (check 16 (ltb 0 (length end)) ∷ []) (accepted (network c.nodes links trees) end) (rw (ne_eqb 16 n (λ e. omega arith))) tt)

  pub decode_never : (P : List Link → Bytes → Type 0) → ((nodes : ℕ) (got : List Link) (bs : Bytes) → P got bs → Never n (next_link f nodes got bs))
      → ((nodes : ℕ) (got : List Link) (bs : Bytes) (l : Link) (rest : Bytes) → P got bs → next_link f nodes got bs ≡ accepted l rest → P (got ++ l ∷ []) rest)
      → (sheet : Bytes) → ((c : Counts) (bs : Bytes) → header_record sheet ≡ accepted c bs → P [] bs) → Never n (decode f sheet)
  unfolding decode decode_body
  decode_never P link keeps sheet start =
      and_then_never n (header_record sheet) (decode_body f) (header_never sheet)
      (λ c bs e. and_then_never n (records (next_link f c.nodes) c.links [] bs) (trees_behind c)
      (records_never n P (next_link f c.nodes) (link c.nodes) (keeps c.nodes) c.links [] bs (start c bs e)) (λ links rest _. trees_never c links rest))

link_nonzero : (f : Format) (nodes : ℕ) (got : List Link) (bs : Bytes) → Never 0 (next_link f nodes got bs)
unfolding link_record shape_checks value_checks
link_nonzero f nodes got bs =
    let l : Link = link_in f (get_or got (length got - 1) no_link) bs in
    unless_never 0 (shape_checks f (eqb (length got) 0) bs ++ value_checks f nodes l) (accepted l (drop (record_length f bs) bs)) refl tt

-- number 0: a network was read, and nothing is left
pub decode-zero : (f : Format) (sheet : Bytes) → number_of (decode f sheet) ≡ 0 → (net : Network) × (decode f sheet ≡ accepted net [])
decode-zero f sheet z =
    let never = decode_never f 0 (λ b. absurd (omega arith)) (omega arith) (λ _ _. Unit {0}) (λ nodes got bs _. link_nonzero f nodes got bs) (λ _ _ _ _ _ _ _. tt) sheet (λ _ _ _. tt) in
    let a = never_zero (decode f sheet) never z in
    (a.0, a.2 ∙ ap (accepted a.0) (nothing_left f sheet a.0 a.1 a.2))
