-- What a set of vector_count marks stands for and what the functions ask and give; what a vector after a step comes from (Preimages; only a private
-- function's contract cites it).
pub mod Sets
pub mod Preimages
