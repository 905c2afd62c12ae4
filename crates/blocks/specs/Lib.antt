-- Rectangles of numbers by rows, cut into the blocks of a grid. No word of a page.
--
-- A walk over a rectangle goes block by block, each part of it that lies in one block once, and answers by rows. What holds the two
-- together stands here: the numbers of a rectangle by rows, a list that is filled with them in any order, and
-- what is added up, or found first, over a rectangle that is cut.
-- The pages stand in the order in which to read them.
pub mod Blocks
pub mod Tables
pub mod Folds
pub mod Walks
