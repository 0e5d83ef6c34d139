-- Text that grows at its end.
use Rattle.std.proofs.Common.{◌≡◌, ℕ, ◌+◌, ◌<◌, List, [], ◌∷◌, ◌++◌, map, length, get_or, take, None, Option, sym, ap, ◌∙◌, append_assoc, append-nil, add-one}
use Rattle.std.proofs.lemmas.List.{map_more, map_push}
use Rattle.std.specs.List.{slice_get}
use Rattle.listing.specs.Rows.{text_of, following, padded}

-- what was added to what had been added
pub then_more : {X : Type 0} {now mid : List X} (was xs ys : List X) → mid ≡ was ++ xs → now ≡ mid ++ ys → now ≡ was ++ (xs ++ ys)
then_more was xs ys a b = b ∙ ap (λ l. l ++ ys) a ∙ append_assoc was xs ys

pub following_push : (ts : List (List ℕ)) (t : List ℕ) → following (ts ++ (t ∷ [])) ≡ following ts ++ (59 ∷ t)
following_push [] t = ap (λ l. 59 ∷ l) (append-nil t)
following_push (u ∷ ts) t = ap (λ l. 59 ∷ l) (ap (λ l. u ++ l) (following_push ts t) ∙ sym (append_assoc u (following ts) (59 ∷ t)))

pub following_more : (cs : List (Option ℕ)) (i : ℕ) → i < length cs → following (map text_of (take (i + 1) cs)) ≡ following (map text_of (take i cs)) ++ (59 ∷ text_of (get_or cs i None))
following_more cs i h = ap following (map_more text_of cs i None h) ∙ following_push (map text_of (take i cs)) (text_of (get_or cs i None))

pub following_padded : (ns : List ℕ) (i : ℕ) → following (map text_of (padded (i + 1) ns)) ≡ following (map text_of (padded i ns)) ++ (59 ∷ text_of (slice_get ns i))
following_padded ns i =
    ap (λ k. following (map text_of (padded k ns))) (add-one i)
    ∙ ap following (map_push text_of (padded i ns) (slice_get ns i)) ∙ following_push (map text_of (padded i ns)) (text_of (slice_get ns i))
