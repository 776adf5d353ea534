-- What the crates above use of the tree's definitions.

-- some element of a list
pub use Rattle.bytestring.proofs.Equal.{equal_true, equal_refl, equal-cases}
pub use Rattle.tree.proofs.Lists.{Some}
-- the test of equality, the first number that is due, and the sets that fit
pub use Rattle.tree.proofs.Tests.{AllTests, due_none, none_due, LawfulKey, RightValue, lawful_all, all_lawful_lem, values_all, all_values_lem, Fitting, fitting, fitting_fits}
-- other items or labels in the same tree; a tree is determined by its shape and its items
pub use Rattle.tree.proofs.Maps.{items_map, pages_map, map_map_tree, unlabelled, shape, determined}
-- the tree of a row has the row's items; with other items at the same layers it has the same shape
pub use Rattle.tree.proofs.BuildLaws.{items_build, items_tree_of, top_le, on_item, map_build, map_tree_of, unlabelled_build, unlabelled_tree_of}
-- it is the one tree whose pages stand at their layers and whose labels are right
unfoldable pub use Rattle.tree.proofs.BuildLaws.{Layered, LayeredUnder, LayeredFrom, Labelled, LabelledUnder, LabelledFrom}
pub use Rattle.tree.proofs.BuildLaws.{place, row, build_layered, tree_of_layered, layered_shape, layered_build, map_layered, labelled_build, labelled_tree_of, labelled_same}
-- layers and depths
unfoldable pub use Rattle.tree.proofs.Depths.{depths, depths_under, depths_from, Filled, FilledUnder, FilledFrom, no_link, no_entry, barren, none_barren, none_barren_under, none_barren_from}
pub use Rattle.tree.proofs.Depths.{Level, items_depths, level_layered, layered_level, layered_filled, none_barren_filled, filled_none_barren}
-- keys and their spelling
pub use Rattle.tree.proofs.Spelling.{keyed_spelt, prefixes_spelt, spelt_keyed, keyed_items, keyed_items_under, keyed_items_from}
-- number 9
pub use Rattle.tree.proofs.Shape.{same_refl, same_equal, layer_of_record, top_of, right_layered, layered_right, right_built, built_right, Local, right_local, none_right, local_right, none_barren_keyed, right_tree_lem, records_tree, tree_right}
-- tables: both ways of reading, and pages with the same bytes
pub use Rattle.tree.proofs.Tables.{AllUnder, AllFrom, Good, page_injective, tree_reads, tree_spells}
-- the table of a set that fits is accepted, and what is accepted is such a table
pub use Rattle.tree.proofs.Accept.{records_of_set, items_of_set, table_accepted, Accepted, accepted_table, one_tree}
-- the table of a set is bytes
pub use Rattle.tree.proofs.TableBytes.{table_bytes}
-- and no longer than that of the set with more records at its end
pub use Rattle.tree.proofs.Growing.{table_grows}
-- and at most so long
pub use Rattle.tree.proofs.Largest.{table_at_most}
-- the places of values are where they stand
pub use Rattle.tree.proofs.PlaceLaws.{Stand, stand_length, places_stand, At, at_left, at_right, at_both}
