-- The order of the keys of objects in JSON, to which RFC 8259, section 4, gives none: it is Depot's own rule.
use Rattle.std.specs.Prelude.{ℕ, List, Bool, true, ◌&&◌}
use Rattle.std.specs.Ordering.{nat_cmp, is_lt}
use Rattle.std.specs.Cmp.Lexicographic.{slice_cmp}
use Rattle.serde_json.specs.Data.{Data, null, boolean, number, string, array, object, Items, no_items, item, Members, no_members, member}
use Rattle.desk_answers.specs.Responses.{Content, json, octets}

-- the key comes before the first of the members, as in a dictionary, or there is none
abbrev pub key_comes_before : List ℕ → Members → Bool
key_comes_before key no_members = true
key_comes_before key (member next value ms) = is_lt (slice_cmp nat_cmp key next)

-- the keys of each object in the value ascend, so no key occurs twice
abbrev mutual
  pub has_ascending_keys : Data → Bool
  has_ascending_keys null = true
  has_ascending_keys (boolean b) = true
  has_ascending_keys (number n) = true
  has_ascending_keys (string s) = true
  has_ascending_keys (array values) = items_have_ascending_keys values
  has_ascending_keys (object ms) = members_have_ascending_keys ms

  pub items_have_ascending_keys : Items → Bool
  items_have_ascending_keys no_items = true
  items_have_ascending_keys (item value values) = has_ascending_keys value && items_have_ascending_keys values

  pub members_have_ascending_keys : Members → Bool
  members_have_ascending_keys no_members = true
  members_have_ascending_keys (member key value ms) = key_comes_before key ms && has_ascending_keys value && members_have_ascending_keys ms

abbrev pub content_has_ascending_keys : Content → Bool
content_has_ascending_keys (json value) = has_ascending_keys value
content_has_ascending_keys (octets bytes) = true
